-- A bag that one value after another is put into
use Rattle.std.proofs.Common.{◌≡◌, ◌⊎◌, inl, inr, List, [], ◌∷◌, ◌++◌, refl, sym, ap, ◌∙◌, subst}
use Rattle.std.specs.Prelude.{ℕ, ◌≢◌, Option}
use Rattle.std.specs.Iterator.{YieldsThen}
use Rattle.sdd_bag.specs.Values.{AreInSomeOrder, HasOneMore}
use Rattle.sdd_bag.proofs.OneMore.{more-before, more-behind}
use Rattle.sdd_bag.proofs.InsertedKeys.{not-there, same-there}
use Rattle.sdd_participants.specs.Slab.{IsEmptyAt, entry_at}
use Rattle.sdd_participants.specs.declared.standing.CellContents.{CellContents}
use Rattle.sdd_world_model.specs.World.{World, value_at}
use Rattle.sdd_world_model.specs.WorldChanges.{held_in, nulled}
use Rattle.sdd_lists.specs.declared.linked_entry.LinkedEntry.{LinkedEntry}
use Rattle.sdd_lists.specs.Entries.{link_of}
use Rattle.sdd_lists.specs.Lists.{AreLinked, Entry, first_slot}
use Rattle.sdd_lists.specs.Stack.{IsStack, cell_in}
use Rattle.sdd_lists.specs.declared.stack.Stack.{Stack}
use Rattle.sdd_bag.specs.Storages.{StorageName}
use Rattle.sdd_bag.specs.Primary.{PrimaryParts, held_by}
use Rattle.sdd_bag.specs.Overflow.{AddsStorage, LiesOn, OverflowParts, spilled_in}
use Rattle.sdd_bag.specs.Filling.{AddsStorages, BuildsBag, adds}
use Rattle.sdd_bag.specs.Bag.{BagParts, HasSameCells, IsBag, PushesBehind, PushesInside, overflow_of, primary_of, values_of}
use Rattle.sdd_bag.proofs.EmptiedBag.{all-removed}

module _ {T B : Type 0} (len : ℕ) (v : T) (old new : BagParts T B) (Same : Type 0) where
  pub one-more : PushesInside len v old new × Same ⊎ PushesBehind len v old new → HasOneMore v (values_of old) (values_of new)
  one-more (inl inside) =
      subst (λ (o : OverflowParts T B). HasOneMore v (values_of old) (primary_of new ++ spilled_in o)) (sym inside.0.others)
      (more-before v (primary_of old) (primary_of new) inside.0.more (overflow_of old))
  one-more (inr behind) =
      subst (λ (p : PrimaryParts T). HasOneMore v (values_of old) (held_by p ++ overflow_of new)) (sym behind.inside)
      (more-behind v (overflow_of old) (overflow_of new) behind.more (primary_of old))

module _ {T : Type 0} (v x : T) where
  -- of two values that are somewhere in a list either may have come first
  abbrev Both : List T → List T → Type 0
  Both few many = (between : List T) × HasOneMore v between many × HasOneMore x few between

  in-front : (y : T) (few many : List T) → Both few many → Both (y ∷ few) (y ∷ many)
  in-front y few many both = (
    y ∷ both.0,
    more-behind v both.0 many both.1 (y ∷ []),
    more-behind x few both.0 both.2 (y ∷ []),
  )

  either-first : (a b c d : List T) → a ++ v ∷ b ≡ c ++ d → Both (a ++ b) (c ++ x ∷ d)
  either-first a b [] d same = (
    x ∷ a ++ b,
    record { before = x ∷ a; behind = b; fewer = refl; more = ap (λ (vs : List T). x ∷ vs) (sym same) },
    record { before = []; behind = a ++ b; fewer = refl; more = refl },
  )
  either-first [] b (y ∷ c) d same =
      let heads : v ≡ y = cc in let tails : b ≡ c ++ d = cc in (
        c ++ x ∷ d,
        record { before = []; behind = c ++ x ∷ d; fewer = refl; more = ap (λ (z : T). z ∷ c ++ x ∷ d) (sym heads) },
        record { before = c; behind = d; fewer = tails; more = refl },
      )
  either-first (z ∷ a) b (y ∷ c) d same =
      let heads : z ≡ y = cc in let tails : a ++ v ∷ b ≡ c ++ d = cc in
      subst (λ (u : T). Both (z ∷ a ++ b) (u ∷ c ++ x ∷ d)) heads (in-front z (a ++ b) (c ++ x ∷ d) (either-first a b c d tails))

  swapped : (few some many : List T) → HasOneMore v few some → HasOneMore x some many → Both few many
  swapped few some many one more =
      let both = either-first one.before one.behind more.before more.behind (sym one.more ∙ more.fewer) in
      subst (λ (vs : List T). Both vs many) (sym one.fewer) (subst (λ (vs : List T). Both (one.before ++ one.behind) vs) (sym more.more) both)

-- a value more is the last one, in some order
pub order-more : {T : Type 0} (x : T) (vs some many : List T) → AreInSomeOrder vs some → HasOneMore x some many → AreInSomeOrder (vs ++ x ∷ []) many
order-more x [] some many none more = ([], subst (λ (few : List _). HasOneMore x few many) none more, refl)
order-more x (v ∷ vs) some many order more =
    let both = swapped v x order.0 some many order.1 more in
    (both.0, both.1, order-more x vs order.0 both.0 order.2 both.2)

module _ {T : Type 0} (w : World T) (link : T → ℕ) where
  -- a list that begins in a slot has one row of entries
  pub one-list : (es fs : List (Entry T)) → AreLinked link w es → AreLinked link w fs → first_slot es ≡ first_slot fs → es ≡ fs
  one-list [] [] are were same = refl
  one-list [] (f ∷ fs) are were same = absurd (not-there f.slot same)
  one-list (e ∷ es) [] are were same = absurd (not-there e.slot (sym same))
  one-list (e ∷ es) (f ∷ fs) are were same =
      let slot = same-there e.slot f.slot same in
      let value = same-there e.value f.value (sym are.0.there ∙ ap (λ (k : ℕ). value_at w k) slot ∙ were.0.there) in
      let mine : CellContents = record { held = first_slot es; tag = e.tag } in
      let theirs : CellContents = record { held = first_slot fs; tag = f.tag } in
      let cell = same-there mine theirs (sym are.0.linked ∙ ap (λ (v : T). entry_at w.cells (link v)) value ∙ were.0.linked) in
      let rest = one-list es fs are.1 were.1 (ap (λ (x : CellContents). x.held) cell) in
      λ i. record { slot = slot i; value = value i; tag = (cell i).tag } ∷ rest i

-- storages were added, and then one more may have been
pub adds-next : {B : Type 0} (shown : B → Option StorageName) (p : ℕ) (stack : Stack B) (w u new : World (LinkedEntry B))
    (es fs gs : List (Entry (LinkedEntry B))) → AddsStorages shown p stack w es u fs → IsStack u (cell_in stack) fs → IsStack new (cell_in stack) gs
    → (Full : Type 0) → (new ≡ u) ⊎ Full × AddsStorage shown u p stack fs new gs → AddsStorages shown p stack w es new gs
adds-next {B = B} shown p stack w u new es fs gs were was now Full (inl same) =
    let here = subst (λ (x : World (LinkedEntry B)). IsStack x (cell_in stack) gs) same now in
    let first : first_slot fs ≡ first_slot gs = ap held_in (sym was.begins ∙ here.begins) in
    subst (λ (x : World (LinkedEntry B)). AddsStorages shown p stack w es x gs) (sym same)
    (subst (λ (hs : List (Entry (LinkedEntry B))). AddsStorages shown p stack w es u hs) (one-list u link_of fs gs was.linked here.linked first) were)
adds-next shown p stack w u new es fs gs were was now Full (inr one) = adds u new fs gs were one.1

-- a bag that was new, and is filled with what an iterator gave
pub builds : {I T B : Type 0} (next : I → Option T → I → Type 0) (shown : B → Option StorageName) (len p : ℕ) (w u new : World (LinkedEntry B))
    (made bag : BagParts T B) (start end : I) (last : Option T) → IsEmptyAt w.cells made.primary.storage.cell
    → IsEmptyAt w.cells (cell_in made.overflow.stack) → made.primary.storage.cell ≢ cell_in made.overflow.stack
    → u ≡ nulled (nulled w made.primary.storage.cell) (cell_in made.overflow.stack) → primary_of made ≡ [] → overflow_of made ≡ []
    → IsBag shown len u made → HasSameCells made bag
    → ((es : List (Entry (LinkedEntry B))) → LiesOn shown len u es made.overflow
    → (fs : List (Entry (LinkedEntry B))) × LiesOn shown len new fs bag.overflow × AddsStorages shown p made.overflow.stack u es new fs)
    → (xs : List T) → ((vs : List T) → AreInSomeOrder vs (values_of made) → AreInSomeOrder (vs ++ xs) (values_of bag))
    → YieldsThen next start xs last end → BuildsBag next shown len p w bag start end last new
builds {T = T} {B = B} next shown len p w u new made bag start end last own stack two is none none-behind there cells list xs values gives =
    let empty = all-removed shown len u made there.entries there none-behind there.lies in
    let lies = subst (λ (es : List (Entry (LinkedEntry B))). LiesOn shown len u es made.overflow) empty there.lies in
    let got = list [] lies in
    let mine : cell_in bag.overflow.stack ≡ cell_in made.overflow.stack = ap (λ (s : Stack B). cell_in s) cells.stack in
    let self : bag.primary.storage.cell ≡ made.primary.storage.cell = ap (λ (s : StorageName). s.cell) cells.storage in
    let nothing : values_of made ≡ [] = ap (λ (vs : List T). vs ++ overflow_of made) none ∙ none-behind in
    record {
      own = subst (λ (k : ℕ). IsEmptyAt w.cells k) (sym self) own;
      stack = subst (λ (k : ℕ). IsEmptyAt w.cells k) (sym mine) stack;
      two = λ same. two (sym self ∙ same ∙ mine);
      given = xs;
      gives = gives;
      values = values [] nothing;
      entries = got.0;
      storages =
          subst (λ (k : ℕ). AddsStorages shown p bag.overflow.stack (nulled (nulled w k) (cell_in bag.overflow.stack)) [] new got.0) (sym self)
          (subst (λ (s : Stack B). AddsStorages shown p s (nulled (nulled w made.primary.storage.cell) (cell_in s)) [] new got.0) (sym cells.stack)
          (subst (λ (x : World (LinkedEntry B)). AddsStorages shown p made.overflow.stack x [] new got.0) is got.2));
      lies = got.1;
    }

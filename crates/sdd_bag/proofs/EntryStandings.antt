-- How the entries of a bag's storages stand where one is put in front of them, and where the first is taken away
use Rattle.std.proofs.Common.{◌≡◌, ◌≢◌, ℕ, ◌-◌, ◌*◌, ◌^◌, ◌<◌, ◌≤◌, List, [], ◌∷◌, ◌++◌, Option, Some, None, length, map, true, false, refl, sym, ap, ◌∙◌, subst, arith}
use Rattle.std.specs.Prelude.{is_some, nat_lt, slice_set, if◌then◌else◌}
use Rattle.std.proofs.lemmas.List.{get_or-set_same, get_or-set_other, length-append, length-map, length-set}
use mathlib.Core.Bool.{Bool}
use Rattle.sdd_bag.specs.KeyedPlaces.{PlaceName}
use Rattle.sdd_bag.specs.Storage.{AreFull, AreFullBehind, KeptPlace, empty_place, value_at, with_value_at}
use Rattle.sdd_bag.proofs.Prefixes.{as-long, behind-new, behind-with}
use Rattle.sdd_core.specs.declared.tag.Tag.{Tag}
use Rattle.sdd_core.specs.declared.tag.Tag.TheVariants as tag
use Rattle.sdd_participants.specs.Slab.{Entries, IsEmptyAt, entry_at}
use Rattle.sdd_participants.specs.declared.standing.Standing.{Standing}
use Rattle.sdd_participants.specs.declared.standing.Standing.TheVariants.{Owned, Raw, Shared, Retired, Private}
use Rattle.sdd_world_model.specs.World.{World, standing_at}
use Rattle.sdd_world_model.specs.WorldChanges.{nulled, owner_given, retired, with_standing}
use Rattle.sdd_lists.proofs.ListLength.{no-longer}
use Rattle.sdd_lists.proofs.FreshLinks.{fresh-list}
use Rattle.sdd_space.specs.Shared.{slot_of}
use Rattle.sdd_lists.specs.declared.linked_entry.LinkedEntry.{LinkedEntry}
use Rattle.sdd_lists.specs.Entries.{link_of, value_of}
use Rattle.sdd_lists.specs.Filling.{AddsOnto}
use Rattle.sdd_lists.specs.Lists.{Entry, is_deleting, left, trimmed}
use Rattle.sdd_lists.specs.declared.stack.Stack.{Stack}
use Rattle.sdd_lists.specs.Stack.{IsStack, cell_in}
use Rattle.sdd_bag.specs.Storages.{StorageName, places_shown}
use Rattle.sdd_bag.specs.Overflow.{AreElsewhere, AreShelves, KeepsPlaces, LiesOn, OverflowParts, places_in, places_on}
use Rattle.sdd_bag.proofs.PrimaryChanges.{new-names}
use Rattle.sdd_bag.proofs.StackStorages.{plain-left}

module _ {I : Type 0} where
  given-as : (b : Bool) (u v : World I) (j : ℕ) (s : Option Standing) → standing_at u j ≡ s → standing_at v j ≡ s
      → standing_at (if b then u else v) j ≡ s
  given-as true u v j s one two = one
  given-as false u v j s one two = two

  -- who gives up an owner changes how that item stands alone
  pub given-other : (w : World I) (p k : ℕ) (s : Option Standing) (j : ℕ) → j ≢ k → standing_at (owner_given w p k s) j ≡ standing_at w j
  given-other w p k None j other = refl
  given-other w p k (Some Owned) j other = get_or-set_other w.standings k j (Some Retired) None other
  given-other w p k (Some Raw) j other = refl
  given-other w p k (Some (Shared n)) j other =
      given-as (nat_lt 1 n) (with_standing w k (Shared (n - 1))) (retired w p k) j (standing_at w j)
      (get_or-set_other w.standings k j (Some (Shared (n - 1))) None other) (get_or-set_other w.standings k j (Some Retired) None other)
  given-other w p k (Some Retired) j other = refl
  given-other w p k (Some (Private c)) j other = refl

module _ {B : Type 0} (shown : B → Option StorageName) (len : ℕ) where
  pub keeps-shelves : (w new : World (LinkedEntry B)) (k : ℕ) (es : List (Entry (LinkedEntry B)))
      → ((j : ℕ) → j ≢ k → standing_at new j ≡ standing_at w j) → AreElsewhere k es → AreShelves shown len w es → AreShelves shown len new es
  keeps-shelves w new k [] same apart are = tt
  keeps-shelves w new k (e ∷ es) same apart are = (
    record { plain = are.0.plain; sole = same e.slot apart.0 ∙ are.0.sole; long = are.0.long },
    are.1,
    keeps-shelves w new k es same apart.1 are.2,
  )

  pub elsewhere-free : (w : World (LinkedEntry B)) (k : ℕ) (es : List (Entry (LinkedEntry B))) → IsEmptyAt w.standings k → AreShelves shown len w es
      → AreElsewhere k es
  elsewhere-free w k [] free are = tt
  elsewhere-free w k (e ∷ es) free are = (
    (λ same.
        let none : standing_at w e.slot ≡ None = ap (λ (j : ℕ). standing_at w j) same ∙ free.1 in
        let never : false ≡ true = ap is_some (sym none ∙ are.0.sole) in absurd (cc)),
    elsewhere-free w k es free are.2,
  )

  if-none : (t : Tag) (a b : World (LinkedEntry B)) → t ≡ tag.None → (if is_deleting t then a else b) ≡ b
  if-none t a b none = subst (λ (s : Tag). (if is_deleting s then a else b) ≡ b) (sym none) refl

  pub trimmed-plain : (w : World (LinkedEntry B)) (p c : ℕ) (t : Tag) (u : World (LinkedEntry B)) (es : List (Entry (LinkedEntry B)))
      → AreShelves shown len u es → trimmed link_of w p c t es ≡ w
  trimmed-plain w p c t u [] are = refl
  trimmed-plain w p c t u (e ∷ es) are = if-none e.tag _ w are.0.plain

  pub few-places : (w : World (LinkedEntry B)) (es : List (Entry (LinkedEntry B))) → len ≤ 32 → AreShelves shown len w es
      → length (places_on shown len es) ≤ 32 * length es
  few-places w [] most are = omega arith
  few-places w (e ∷ es) most are =
      omega (arith, few-places w es most are.2, length-append (places_in shown len e) (places_on shown len es), are.0.long, most)

  module _ {T : Type 0} (w new : World (LinkedEntry B)) (p : ℕ) (es fs : List (Entry (LinkedEntry B))) (o : OverflowParts T B) (shelf : B)
      (names : List PlaceName) (lies : LiesOn shown len w es o) (add : AddsOnto w p (cell_in o.stack) es shelf new fs)
      (places : places_shown (shown shelf) ≡ names) (long : length names ≡ len) (full : AreFull len o.places) where
    standings-between : add.between.standings ≡ slice_set w.standings (slot_of add.owner) (Some (Shared 2))
    standings-between =
        ap (λ (x : World (LinkedEntry B)). x.standings) add.pushes.list.world
        ∙ ap (λ (x : World (LinkedEntry B)). x.standings) (trimmed-plain _ p (cell_in o.stack) tag.None w es lies.shelves)

    twice : standing_at add.between (slot_of add.owner) ≡ Some (Shared 2)
    twice =
        ap (λ (t : Entries Standing). entry_at t (slot_of add.owner)) standings-between
        ∙ get_or-set_same w.standings (slot_of add.owner) (Some (Shared 2)) None add.pushes.list.free.0

    once-world : new ≡ with_standing add.between (slot_of add.owner) (Shared 1)
    once-world = add.world ∙ ap (λ (s : Option Standing). owner_given add.between p (slot_of add.owner) s) twice

    once : standing_at new (slot_of add.owner) ≡ Some (Shared 1)
    once =
        ap (λ (x : World (LinkedEntry B)). standing_at x (slot_of add.owner)) once-world
        ∙ get_or-set_same add.between.standings (slot_of add.owner) (Some (Shared 1)) None
        (omega (
          arith,
          ap (λ (t : Entries Standing). length t) standings-between,
          length-set w.standings (slot_of add.owner) (Some (Shared 2)),
          add.pushes.list.free.0,
        ))

    others : (j : ℕ) → j ≢ slot_of add.owner → standing_at new j ≡ standing_at w j
    others j other =
        ap (λ (x : World (LinkedEntry B)). standing_at x j) once-world
        ∙ get_or-set_other add.between.standings (slot_of add.owner) j (Some (Shared 1)) None other
        ∙ ap (λ (t : Entries Standing). entry_at t j) standings-between
        ∙ get_or-set_other w.standings (slot_of add.owner) j (Some (Shared 2)) None other

    pub lies-added : LiesOn shown len new fs (record { stack = o.stack; places = map empty_place names ++ o.places })
    lies-added =
        let value : value_of add.pushes.entry ≡ shelf = add.pushes.value in
        let on : places_shown (shown (value_of add.pushes.entry)) ≡ names = ap (λ (b : B). places_shown (shown b)) value ∙ places in
        let apart : AreElsewhere (slot_of add.owner) es = elsewhere-free w (slot_of add.owner) es add.pushes.list.free lies.shelves in
        let rest : left es ≡ es = plain-left shown len w es lies.shelves in
        let whole : record { slot = slot_of add.owner; value = add.pushes.entry; tag = tag.None } ∷ es ≡ fs =
        ap (λ (gs : List (Entry (LinkedEntry B))). record { slot = slot_of add.owner; value = add.pushes.entry; tag = tag.None } ∷ gs) (sym rest)
        ∙ sym add.entries in
        record {
          stack = add.list;
          shelves = subst (λ (gs : List (Entry (LinkedEntry B))). AreShelves shown len new gs) whole (
            record { plain = refl; sole = once; long = ap (λ (ns : List PlaceName). length ns) on ∙ long },
            apart,
            keeps-shelves w new (slot_of add.owner) es others apart lies.shelves,
          );
          keys =
              new-names names o.places ∙ ap (λ (ns : List PlaceName). names ++ ns) lies.keys
              ∙ ap (λ (ns : List PlaceName). ns ++ places_on shown len es) (sym on)
              ∙ ap (λ (gs : List (Entry (LinkedEntry B))). places_on shown len gs) whole;
          full = behind-new len names o.places long full lies.full;
        }

  pub same-shelves : (w new : World (LinkedEntry B)) (es : List (Entry (LinkedEntry B))) → ((j : ℕ) → standing_at new j ≡ standing_at w j)
      → AreShelves shown len w es → AreShelves shown len new es
  same-shelves w new [] same are = tt
  same-shelves w new (e ∷ es) same are =
      (record { plain = are.0.plain; sole = same e.slot ∙ are.0.sole; long = are.0.long }, are.1, same-shelves w new es same are.2)

  -- a cell that is taken meanwhile is no link of theirs
  pub lies-beside : {T : Type 0} (w : World (LinkedEntry B)) (l : ℕ) (es : List (Entry (LinkedEntry B))) (o : OverflowParts T B) → IsEmptyAt w.cells l
      → LiesOn shown len w es o → LiesOn shown len (nulled w l) es o
  lies-beside w l es o free lies = record {
    stack = fresh-list link_of w l free (cell_in o.stack) tag.None es lies.stack;
    shelves = same-shelves w (nulled w l) es (λ j. refl) lies.shelves;
    keys = lies.keys;
    full = lies.full;
  }

  pub few-kept : {T : Type 0} (w : World (LinkedEntry B)) (es : List (Entry (LinkedEntry B))) (o : OverflowParts T B) (slots : ℕ) → len ≤ 32
      → length w.values ≡ slots → slots < 2 ^ 64 → LiesOn shown len w es o → length o.places < 2 ^ 80
  few-kept w es o slots most long few lies =
      let named = ap length lies.keys in
      omega (
        arith,
        few-places w es most lies.shelves,
        no-longer link_of w es lies.stack.linked,
        long,
        few,
        named,
        length-map o.places (λ (p : KeptPlace _). p.name),
      )

  -- one of the first storage's places has a value more or less
  pub lies-kept : {T : Type 0} (w new : World (LinkedEntry B)) (es : List (Entry (LinkedEntry B))) (o o' : OverflowParts T B) → new ≡ w → KeepsPlaces o o'
      → (at : ℕ) (v : Option T) → at < len → o'.places ≡ with_value_at o.places at v → LiesOn shown len w es o → LiesOn shown len new es o'
  lies-kept {T = T} w new es o o' world keeps at v near is lies = subst (λ (x : World (LinkedEntry B)). LiesOn shown len x es o') (sym world) (record {
    stack = subst (λ (st : Stack B). IsStack w (cell_in st) es) (sym keeps.stack) lies.stack;
    shelves = lies.shelves;
    keys = keeps.names ∙ lies.keys;
    full = subst (λ (ps : List (KeptPlace T)). AreFullBehind len ps) (sym is) (behind-with len o.places at v near lies.full);
  })

  -- the first storage's places may have other values, or none
  pub lies-emptied : {T : Type 0} (w new : World (LinkedEntry B)) (es : List (Entry (LinkedEntry B))) (o o' : OverflowParts T B) → new ≡ w → KeepsPlaces o o'
      → ((k : ℕ) → len ≤ k → value_at o'.places k ≡ value_at o.places k) → LiesOn shown len w es o → LiesOn shown len new es o'
  lies-emptied {T = T} w new es o o' world keeps others lies = subst (λ (x : World (LinkedEntry B)). LiesOn shown len x es o') (sym world) (record {
    stack = subst (λ (st : Stack B). IsStack w (cell_in st) es) (sym keeps.stack) lies.stack;
    shelves = lies.shelves;
    keys = keeps.names ∙ lies.keys;
    full = λ k far near. ap is_some (others k far) ∙ lies.full k far (omega (arith, near, as-long o.places o'.places keeps.names));
  })

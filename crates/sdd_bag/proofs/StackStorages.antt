-- Storages on the entries of a stack, and the keys of their places
use Rattle.std.proofs.Common.{◌≡◌, ℕ, ◌<◌, List, [], ◌∷◌, ◌++◌, Option, Some, None, length, is_some, refl, sym, ap, ◌∙◌, subst, arith}
use Rattle.std.specs.Prelude.{IfOk, IfSome, MatchOption, MatchResult, Result, Ok, Err, if◌then◌else◌}
use Rattle.sdd_bag.specs.Storage.{AreEmpty, AreFull, IsEmptyAt, IsFullWith, KeptPlace, names_of, value_at, values_in, with_value_at}
use Rattle.sdd_bag.specs.Values.{HasOneMore}
use Rattle.sdd_core.specs.declared.tag.Tag.{Tag}
use Rattle.sdd_world_model.specs.World.{World}
use Rattle.sdd_lists.specs.declared.linked_entry.LinkedEntry.{LinkedEntry}
use Rattle.sdd_lists.specs.declared.stack.Stack.{Stack}
use Rattle.sdd_lists.specs.Lists.{Entry, is_deleting, left}
use Rattle.sdd_bag.specs.Storages.{StorageName, places_shown}
use Rattle.sdd_lists.specs.Entries.{value_of}
use Rattle.sdd_bag.specs.Primary.{PrimaryParts}
use Rattle.sdd_bag.specs.Overflow.{AreShelves, LiesOn, OverflowParts, places_in, places_on}
use Rattle.sdd_bag.specs.Bag.{BagParts}

pub no-places : {T : Type 0} (ps : List (KeptPlace T)) → names_of ps ≡ [] → ps ≡ []
no-places [] e = refl
no-places (p ∷ ps) e = let long : length (names_of (p ∷ ps)) ≡ 0 = ap length e in absurd (omega (arith, long))

module _ {B : Type 0} (shown : B → Option StorageName) (len : ℕ) where
  -- none is deleted
  pub plain-left : (w : World (LinkedEntry B)) (es : List (Entry (LinkedEntry B))) → AreShelves shown len w es → left es ≡ es
  plain-left w [] are = refl
  plain-left w (e ∷ es) are =
      subst (λ (t : Tag). (if is_deleting t then left es else e ∷ es) ≡ e ∷ es) (sym are.0.plain) refl

  -- each shows a storage, so that there is none where the first one shows none
  pub none-left : (w : World (LinkedEntry B)) (es : List (Entry (LinkedEntry B))) → 0 < len → AreShelves shown len w es
      → ((e : Entry (LinkedEntry B)) (rest : List (Entry (LinkedEntry B))) → left es ≡ e ∷ rest → shown (value_of e.value) ≡ None) → left es ≡ []
  none-left w [] some are none = refl
  none-left w (e ∷ es) some are none =
      let long = ap (λ (s : Option StorageName). length (places_shown s)) (none e es (plain-left w (e ∷ es) are)) in
      absurd (omega (arith, long, some, are.0.long))

  module _ {T : Type 0} (w : World (LinkedEntry B)) (es : List (Entry (LinkedEntry B))) (o : OverflowParts T B) (lies : LiesOn shown len w es o) where
    pub front-keys : (e : Entry (LinkedEntry B)) (rest : List (Entry (LinkedEntry B))) → left es ≡ e ∷ rest
        → names_of o.places ≡ places_in shown len e ++ places_on shown len rest
    front-keys e rest first = lies.keys ∙ ap (λ (fs : List (Entry (LinkedEntry B))). places_on shown len fs) (sym (plain-left w es lies.shelves) ∙ first)

    pub none-there : left es ≡ [] → o.places ≡ []
    none-there none =
        no-places o.places (lies.keys ∙ ap (λ (fs : List (Entry (LinkedEntry B))). places_on shown len fs) (sym (plain-left w es lies.shelves) ∙ none))

module _ {T : Type 0} where
  pub none-full : (len : ℕ) (ps : List (KeptPlace T)) → ps ≡ [] → AreFull len ps
  none-full len ps none k near inside = let long = ap (λ (qs : List (KeptPlace T)). length qs) none in absurd (omega (arith, inside, long))

  pub none-used : (len : ℕ) (ps : List (KeptPlace T)) → ps ≡ [] → AreEmpty len ps
  none-used len ps none k near = ap (λ (qs : List (KeptPlace T)). is_some (value_at qs k)) none

module _ {T B : Type 0} (len : ℕ) (primary : PrimaryParts T) (stack : Stack B) (old new : List (KeptPlace T)) where
  abbrev pub with_keys : List (KeptPlace T) → BagParts T B
  with_keys ps = record { primary = primary; overflow = record { stack = stack; places = ps } }

  pub storages-pushed : (v : T) (r : Result (Unit {0}) T)
      → MatchResult r (λ _. (at : ℕ) × (at < len) × IsEmptyAt at old × (new ≡ with_value_at old at (Some v)))
      (λ back. (back ≡ v) × AreFull len old × (new ≡ old))
      → IfOk r (λ _. HasOneMore v (values_in old) (values_in new))
      → MatchResult r (λ _. ((at : ℕ) × (at < len) × IsEmptyAt at old × (new ≡ with_value_at old at (Some v))) × HasOneMore v (values_in old) (values_in new))
      (λ back. (back ≡ v) × AreFull len old × (with_keys new ≡ with_keys old))
  storages-pushed v (Ok u) place more = (place, more)
  storages-pushed v (Err back) place more = (place.0, place.1, ap with_keys place.2)

  pub storages-popped : (r : Option T)
      → MatchOption r (AreEmpty len old × (new ≡ old)) (λ v. (at : ℕ) × (at < len) × IsFullWith v at old × (new ≡ with_value_at old at None))
      → IfSome r (λ v. HasOneMore v (values_in new) (values_in old))
      → MatchOption r (AreEmpty len old × (with_keys new ≡ with_keys old))
      (λ v. ((at : ℕ) × (at < len) × IsFullWith v at old × (new ≡ with_value_at old at None)) × HasOneMore v (values_in new) (values_in old))
  storages-popped None place less = (place.0, ap with_keys place.1)
  storages-popped (Some v) place less = (place, less)

-- The first shelf that is left is what a pointer to it shows
use Rattle.std.proofs.Common.{◌≡◌, ℕ, List, [], ◌∷◌, Option, Some, None, refl, sym, ap, ◌∙◌, Bor}
use Rattle.std.specs.Prelude.{MatchOption, option_copied}
use Rattle.sdd_bag.specs.Storages.{StorageName}
use Rattle.sdd_world_model.specs.World.{World, value_at}
use Rattle.sdd_space.specs.Ptr.{PtrIsShown, shown_by, slot_named}
use Rattle.sdd_space.specs.declared.ptr.Ptr.{Ptr}
use Rattle.sdd_lists.specs.declared.linked_entry.LinkedEntry.{LinkedEntry}
use Rattle.sdd_lists.specs.Entries.{link_of, value_of}
use Rattle.sdd_lists.specs.Lists.{AreLinked, Entry, first_slot}
use Rattle.sdd_bag.proofs.InsertedKeys.{not-there, same-there}

module _ {B : Type 0} (w : World (LinkedEntry B)) (shows : ℕ → LinkedEntry B → Type 0)
    (are : (k : ℕ) (v : LinkedEntry B) → shows k v → value_at w k ≡ Some v) (ptr : Ptr (LinkedEntry B)) (is : PtrIsShown shows ptr) where
  pub front-shelf : (fs : List (Entry (LinkedEntry B))) → AreLinked link_of w fs → slot_named ptr ≡ first_slot fs → (v : LinkedEntry B) → Some v ≡ shown_by ptr
      → (e : Entry (LinkedEntry B)) × (rest : List (Entry (LinkedEntry B))) × (fs ≡ e ∷ rest) × (value_of v ≡ value_of e.value)
  front-shelf [] linked slot v shown = absurd (not-there v (sym (is.null slot) ∙ sym shown))
  front-shelf (e ∷ rest) linked slot v shown =
      let full = is.full e.slot slot in
      let value : v ≡ e.value = same-there v full.0 (shown ∙ full.1) ∙ same-there full.0 e.value (sym (are e.slot full.0 full.2) ∙ linked.0.there) in
      (e, rest, refl, ap value_of value)

  pub no-shelf : (fs : List (Entry (LinkedEntry B))) → slot_named ptr ≡ first_slot fs → None ≡ shown_by ptr → fs ≡ []
  no-shelf [] slot shown = refl
  no-shelf (e ∷ rest) slot shown = let full = is.full e.slot slot in absurd (not-there full.0 (shown ∙ full.1))

module _ {B : Type 0} (shown : B → Option StorageName) (fs : List (Entry (LinkedEntry B))) where
  -- no first entry shows a storage
  abbrev ShowsNone : Type 0
  ShowsNone = (e : Entry (LinkedEntry B)) (rest : List (Entry (LinkedEntry B))) → fs ≡ e ∷ rest → shown (value_of e.value) ≡ None

  -- the first of these entries shows this, or shows no storage
  pub front-storage : (e : Entry (LinkedEntry B)) (rest : List (Entry (LinkedEntry B))) → fs ≡ e ∷ rest → (r : Option (Bor StorageName))
      → option_copied r ≡ shown (value_of e.value) → MatchOption r ShowsNone
      (λ s. (x : Entry (LinkedEntry B)) × (xs : List (Entry (LinkedEntry B))) × (fs ≡ x ∷ xs) × (Some s.now ≡ shown (value_of x.value)))
  front-storage e rest is None none = λ x xs same.
      let one : e ∷ rest ≡ x ∷ xs = sym is ∙ same in let first : e ≡ x = cc in
      ap (λ (y : Entry (LinkedEntry B)). shown (value_of y.value)) (sym first) ∙ sym none
  front-storage e rest is (Some s) some = (e, rest, is, some)

  pub no-storage-shown : fs ≡ [] → ShowsNone
  no-storage-shown none e rest same = let never : [] ≡ e ∷ rest = sym none ∙ same in absurd (cc)

-- A bag in a world where guards were opened and closed
use Rattle.std.proofs.Common.{◌≡◌, ℕ, zero, suc, List, [], ◌∷◌, Bool, true, false, Option, refl, sym, ap, ◌∙◌, subst}
use Rattle.std.specs.Prelude.{if◌then◌else◌, not, slice_index_or, slice_set, ◌==◌}
use Rattle.sdd_participants.specs.declared.participant.Participant.{Participant}
use Rattle.sdd_participants.specs.declared.waiting.LimboEntry.{LimboEntry}
use Rattle.sdd_participants.specs.EpochState as time
use Rattle.sdd_participants.specs.Waiting.{aged, due}
use Rattle.sdd_participants.specs.EpochState.{EpochState, nobody}
use Rattle.sdd_world_model.specs.OwnerOrCell.{OwnerOrCell}
use Rattle.sdd_world_model.specs.World.{World, place_at}
use Rattle.sdd_world_model.specs.WorldChanges.{all_reclaimed, caught_up, changed, closed, nested, opened, rotated, settled}
use Rattle.sdd_lists.specs.declared.linked_entry.LinkedEntry.{LinkedEntry}
use Rattle.sdd_lists.specs.Entries.{link_of}
use Rattle.sdd_lists.specs.Lists.{AreLinked, Entry}
use Rattle.sdd_bag.specs.Storages.{StorageName}
use Rattle.sdd_bag.specs.Overflow.{AreShelves, LiesOn, OverflowParts}
use Rattle.sdd_bag.specs.Bag.{BagParts, IsBag}

-- one guard more changes nothing of what waits with a participant, and of the count that it found
bags-nested : (ps : List Participant) (p : ℕ)
    → (slice_index_or (slice_set ps p (time.nested (slice_index_or ps p nobody))) p nobody).bags ≡ (slice_index_or ps p nobody).bags
bags-nested [] p = refl
bags-nested (x ∷ ps) zero = refl
bags-nested (x ∷ ps) (suc p) = bags-nested ps p

found-nested : (ps : List Participant) (p : ℕ)
    → (slice_index_or (slice_set ps p (time.nested (slice_index_or ps p nobody))) p nobody).found ≡ (slice_index_or ps p nobody).found
found-nested [] p = refl
found-nested (x ∷ ps) zero = refl
found-nested (x ∷ ps) (suc p) = found-nested ps p

none-due : {A : Type 0} (b c : Bool) (xs : List A) → b ≡ false → c ≡ true → (if b then [] else (if c then xs else [])) ≡ [] → xs ≡ []
none-due false true xs shut finds none = none
none-due false false xs shut finds none = absurd (cc)
none-due true c xs shut finds none = absurd (cc)

either : {A : Type 0} (P : A → Type 0) (b : Bool) (x y : A) → (b ≡ true → P x) → (b ≡ false → P y) → P (if b then x else y)
either P true x y one other = one refl
either P false x y one other = other refl

module _ {B : Type 0} (w : World (LinkedEntry B)) where
  abbrev timed : EpochState → World (LinkedEntry B)
  timed t = record w { time = t }

  abbrev IsTimed : World (LinkedEntry B) → Type 0
  IsTimed new = (t : EpochState) × (new ≡ timed t)

  -- an opening at which nothing is due changes the epoch's state alone
  opened-timed : (holds : LinkedEntry B → List OwnerOrCell) (p : ℕ) → time.due_at w.time p ≡ [] → IsTimed (opened holds w p)
  opened-timed holds p none =
      let t = w.time in let within : World (LinkedEntry B) = nested w p in
      let finds : time.finds_another within.time p ≡ time.finds_another t p = ap (λ (n : ℕ). not (n == t.count)) (found-nested t.places p) in
      either IsTimed (time.is_open (place_at w p)) (nested w p) (caught_up holds within p) (λ is. (time.nested_at t p, refl))
      (λ shut. either IsTimed (time.finds_another within.time p) (changed holds within p) within
      (λ other.
      let nothing : time.due_next (place_at within p) ≡ [] =
      ap (λ bags. due (aged bags.waiting)) (bags-nested t.places p)
      ∙ none-due (time.is_open (time.place_at t p)) (time.finds_another t p) (time.due_next (time.place_at t p)) shut (sym finds ∙ other) none in (
        time.settled_at (time.rotated_at (time.nested_at t p) p) p,
        ap (λ (xs : List LimboEntry). settled (all_reclaimed holds
            (rotated within p) p xs) p) nothing,
      ))
      (λ same. (time.nested_at t p, refl)))

  module _ (shown : B → Option StorageName) (len : ℕ) (t : EpochState) where
    linked-timed : (es : List (Entry (LinkedEntry B))) → AreLinked link_of w es → AreLinked link_of (timed t) es
    linked-timed [] are = tt
    linked-timed (e ∷ es) are = (record { there = are.0.there; linked = are.0.linked; plain = are.0.plain }, linked-timed es are.1)

    shelves-timed : (es : List (Entry (LinkedEntry B))) → AreShelves shown len w es → AreShelves shown len (timed t) es
    shelves-timed [] are = tt
    shelves-timed (e ∷ es) are = (record { plain = are.0.plain; sole = are.0.sole; long = are.0.long }, are.1, shelves-timed es are.2)

    module _ {T : Type 0} where
      lies-timed : (es : List (Entry (LinkedEntry B))) (o : OverflowParts T B) → LiesOn shown len w es o → LiesOn shown len (timed t) es o
      lies-timed es o lies = record {
        stack = record { begins = lies.stack.begins; linked = linked-timed es lies.stack.linked };
        shelves = shelves-timed es lies.shelves;
        keys = lies.keys;
        full = lies.full;
      }

      bag-timed : (bag : BagParts T B) → IsBag shown len w bag → IsBag shown len (timed t) bag
      bag-timed bag is = record { entries = is.entries; lies = lies-timed is.entries bag.overflow is.lies; used = is.used }

  module _ {T : Type 0} (shown : B → Option StorageName) (len : ℕ) (p : ℕ) where
    pub lies-closed : (es : List (Entry (LinkedEntry B))) (o : OverflowParts T B) → LiesOn shown len w es o → LiesOn shown len (closed w p) es o
    lies-closed es o lies = lies-timed shown len (time.closed w.time p) es o lies

    pub bag-closed : (bag : BagParts T B) → IsBag shown len w bag → IsBag shown len (closed w p) bag
    bag-closed bag is = bag-timed shown len (time.closed w.time p) bag is

    module _ (holds : LinkedEntry B → List OwnerOrCell) (none : time.due_at w.time p ≡ []) where
      pub lies-opened : (es : List (Entry (LinkedEntry B))) (o : OverflowParts T B) → LiesOn shown len w es o → LiesOn shown len (opened holds w p) es o
      lies-opened es o lies =
          let after = opened-timed holds p none in
          subst (λ (v : World (LinkedEntry B)). LiesOn shown len v es o) (sym after.1) (lies-timed shown len after.0 es o lies)

      pub bag-opened : (bag : BagParts T B) → IsBag shown len w bag → IsBag shown len (opened holds w p) bag
      bag-opened bag is =
          let after = opened-timed holds p none in
          subst (λ (v : World (LinkedEntry B)). IsBag shown len v bag) (sym after.1) (bag-timed shown len after.0 bag is)

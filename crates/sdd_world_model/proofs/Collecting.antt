-- What the close of a collector takes, and what it leaves
use Rattle.std.proofs.Common.{◌≡◌, ◌≢◌, inr, ℕ, ◌+◌, ◌≤◌, List, [], ◌∷◌, Bool, refl, ap, ◌∙◌, arith, true, false, Some, None, Option}
use Rattle.std.specs.Prelude.{is_some}
use Rattle.std.proofs.lemmas.Bool.Decides.{nat_tests}
use Rattle.sdd_participants.specs.declared.waiting.LimboEntry.{LimboEntry}
use Rattle.sdd_participants.specs.declared.waiting.LimboEntry.TheVariants.{Item, Job}
use Rattle.sdd_participants.specs.declared.standing.Standing.{Standing}
use Rattle.sdd_participants.specs.declared.standing.Standing.TheVariants.{Owned, Raw, Shared, Retired, Private as privately}
use Rattle.sdd_participants.specs.Collecting.{is_private_to}
use Rattle.sdd_world_model.specs.Slots.{is_waiting}
use Rattle.sdd_world_model.specs.World.{World, standing_at, value_at}
use Rattle.sdd_world_model.specs.OwnerOrCell.{OwnerOrCell}
use Rattle.sdd_world_model.specs.WorldInvariant.{IsWhole, is_of_slot}
use Rattle.sdd_world_model.specs.Collecting.{is_for, waiting_for, without_collector, collector_closed, CollectedEnds}
use Rattle.sdd_world_model.proofs.TimesListed.{listed-without, none-left, none-taken}
use Rattle.sdd_world_model.specs.WorldChanges.{all_reclaimed, freed, reclaimed, taken_out, waiting_value}
use Rattle.std.proofs.lemmas.List.{get_or-set_other}
use Rattle.sdd_world_model.proofs.GuardOpened.{Stands, all-goes, all-stands, keeps-given_all}
use Rattle.sdd_world_model.proofs.Standings.{waits-out-not}
use Rattle.sdd_world_model.proofs.WorldInvariant.{count-cons, times_among, filled-there, some-waits}

-- only the slot's item is of the slot
only-item : (k : ℕ) (x : LimboEntry) → is_of_slot k x ≡ true → (chosen : LimboEntry → Bool) (b : Bool) → chosen (Item k) ≡ b → chosen x ≡ b
only-item k (Item j) of chosen b is = let e : j ≡ k = grind (arith, nat_tests, of) in ap (λ (n : ℕ). chosen (Item n)) e ∙ is
only-item k (Job j) of chosen b is = absurd (cc)

-- whether an item waits for the collector
is-private : (c : ℕ) (s : Option Standing) → s ≡ Some (privately c) → is_private_to c s ≡ true
is-private c s is = ap (is_private_to c) is ∙ grind (arith, nat_tests)

not-private : (c : ℕ) (s : Option Standing) → s ≢ Some (privately c) → is_private_to c s ≡ false
not-private c None other = refl
not-private c (Some Owned) other = refl
not-private c (Some Raw) other = refl
not-private c (Some (Shared n)) other = refl
not-private c (Some Retired) other = refl
not-private c (Some (privately d)) other =
    let apart : d ≢ c = λ e. other (ap (λ (n : ℕ). Some (privately n)) e) in grind (arith, nat_tests)

value-there : {X : Type 0} (v : Option X) → is_some v ≡ true → (x : X) × (v ≡ Some x)
value-there None e = absurd (cc)
value-there (Some x) e = (x, refl)

-- what is reclaimed leaves each other slot its value
module _ {T : Type 0} (holds : T → List OwnerOrCell) (p k : ℕ) (v : Option T) where
  abbrev HasValue : World T → Type 0
  HasValue u = value_at u k ≡ v

  taken-keeps : (w : World T) (j : ℕ) → k ≢ j → (u : Option T) → HasValue w → HasValue (taken_out holds w p j u)
  taken-keeps w j apart None h = h
  taken-keeps w j apart (Some u) h =
      keeps-given_all p HasValue (λ x n out g. g) (λ x n g. g) (λ x n m o is g. g) (freed w j) (holds u) (get_or-set_other w.values j k None None apart ∙ h)

  reclaimed-keeps : (w : World T) (x : LimboEntry) → is_of_slot k x ≡ false → HasValue w → HasValue (reclaimed holds w p x)
  reclaimed-keeps w (Item j) other h =
      taken-keeps w j (λ e. absurd (grind (arith, nat_tests, other, e))) (waiting_value w j (standing_at w j)) h
  reclaimed-keeps w (Job n) other h = h

  reclaims-if : (x : LimboEntry) (xs : List LimboEntry) (w : World T) → times_among k (x ∷ xs) ≡ 0 → (b : Bool) → is_of_slot k x ≡ b → HasValue w →
      (times_among k xs ≡ 0) × HasValue (reclaimed holds w p x)
  reclaims-if x xs w none true e h =
      let all : times_among k (x ∷ xs) ≡ 1 + times_among k xs = count-cons (is_of_slot k) x xs ∙ rw e refl in absurd (omega (arith, none, all))
  reclaims-if x xs w none false e h =
      let all : times_among k (x ∷ xs) ≡ 0 + times_among k xs = count-cons (is_of_slot k) x xs ∙ rw e refl in
      (omega (arith, none, all), reclaimed-keeps w x e h)

  all-keep : (xs : List LimboEntry) (w : World T) → times_among k xs ≡ 0 → HasValue w → HasValue (all_reclaimed holds w p xs)
  all-keep [] w none h = h
  all-keep (x ∷ xs) w none h = let rest = reclaims-if x xs w none (is_of_slot k x) refl h in all-keep xs (reclaimed holds w p x) rest.0 rest.1

module _ {T : Type 0} (w : World T) (c k : ℕ) (i : IsWhole w) where
  pub takes : is_waiting (standing_at w k) ≡ true → is_for w c (Item k) ≡ true → 1 ≤ times_among k (waiting_for w c)
  takes waits for =
      let all = i.once k in
      let one = rw waits at all in
      let both = listed-without (is_of_slot k) (is_for w c) w.time.places in
      let none = none-left (is_of_slot k) (is_for w c) (λ x of. only-item k x of (is_for w c) true for) w.time.places in
      omega (arith, one, both, none)

  pub passes-over : is_for w c (Item k) ≡ false → times_among k (waiting_for w c) ≡ 0
  passes-over other = none-taken (is_of_slot k) (is_for w c) (λ x of. only-item k x of (is_for w c) false other) w.time.places

  module _ (holds : T → List OwnerOrCell) (p : ℕ) (waits : is_waiting (standing_at w k) ≡ true) where
    pub goes : is_for w c (Item k) ≡ true → Stands k None None (collector_closed holds w p c)
    goes for =
        let v = value-there (value_at w k) (filled-there w k i.filled ∙ some-waits (standing_at w k) waits) in
        all-goes holds p k (waiting_for w c) (without_collector w c) (standing_at w k) v.0 waits
        (inr (takes waits for, record { standing = refl; value = v.1 }))

    pub stays : is_for w c (Item k) ≡ false → Stands k (standing_at w k) (value_at w k) (collector_closed holds w p c)
    stays other =
        all-stands holds p k (waiting_for w c) (without_collector w c) (standing_at w k) (value_at w k) (waits-out-not (standing_at w k) waits)
        (passes-over other) (record { standing = refl; value = refl })

pub collected-ends : {T : Type 0} (holds : T → List OwnerOrCell) (w : World T) → IsWhole w → CollectedEnds holds w
collected-ends holds w i = λ p c l. record {
  gone = λ k is. let s = goes w c k i holds p (ap is_waiting is) (is-private c (standing_at w k) is) in (s.standing, s.value);
  waits = λ k waits other. (stays w c k i holds p waits (not-private c (standing_at w k) other)).standing;
  keeps = λ k other.
      all-keep holds p k (value_at w k) (waiting_for w c) (without_collector w c) (passes-over w c k i (not-private c (standing_at w k) other)) refl;
}

-- An owner that is to change its item in its place
use Rattle.std.proofs.Common.{◌≡◌, ◌≢◌, ◌⊎◌, inl, inr, ℕ, ◌<◌, List, true, false, IsTrue, Option, Some, None, refl, sym, ap, ◌∙◌, arith, nat_lt, slice_index_or}
use Rattle.std.specs.Prelude.{unwrap_or}
use Rattle.std.proofs.lemmas.Bool.Decides.{nat_tests}
use Rattle.std.proofs.lemmas.List.{get_or-set_other}
use Rattle.sdd_core.specs.declared.refused.Refused.{Refused}
use Rattle.sdd_core.specs.declared.refused.Refused.TheVariants.{GuardOpen, NotAlone}
use Rattle.sdd_participants.specs.declared.standing.Standing.{Standing}
use Rattle.sdd_participants.specs.declared.standing.Standing.TheVariants.{Owned, Shared}
use Rattle.sdd_world_model.specs.Slots.{IsSharedBy, has_others, owners_of}
use Rattle.sdd_world_model.specs.World.{World, AnyGuardOpen, standing_at, value_at}
use Rattle.sdd_world_model.specs.OwnerOrCell.{OwnerOrCell}
use Rattle.sdd_world_model.specs.WorldChanges.{given_all, vacated, dropped_out, dropped}
use Rattle.sdd_world_model.proofs.GuardOpened.{keeps-given_all}
use Rattle.sdd_world_model.specs.InPlace.{IsAlone, RefusedInPlace}

-- as many owners as it is shared by
owners : Option Standing → ℕ
owners s = unwrap_or (owners_of s) 0

-- one that is alone is the only one
pub alone-one : (n : ℕ) (s : Option Standing) → IsSharedBy n s → IsAlone s → n ≡ 1
unfolding owners
alone-one n s i (inl e) = let never : Some (Shared n) ≡ Some Owned = sym i.shared ∙ e in absurd (cc)
alone-one n s i (inr e) = ap owners (sym i.shared ∙ e)

several : (n : ℕ) (s : Option Standing) → IsSharedBy n s → IsTrue (has_others s) → 1 < n
several n s i h = let more : nat_lt 1 n ≡ true = sym (ap has_others i.shared) ∙ h in grind (arith, nat_tests, more)

module _ {T : Type 0} (w : World T) (k : ℕ) where
  -- the one owner is refused by a guard alone
  pub refused-sole : (e : Refused) → standing_at w k ≡ Some Owned → RefusedInPlace w k e → AnyGuardOpen w × (e ≡ GuardOpen)
  refused-sole e is (inl h) = let never : false ≡ true = sym (ap has_others is) ∙ h.0 in absurd (cc)
  refused-sole e is (inr h) = (h.1, h.2)

  pub refused-shared : (n : ℕ) (e : Refused) → IsSharedBy n (standing_at w k) → RefusedInPlace w k e →
      ((1 < n) × (e ≡ NotAlone)) ⊎ ((n ≡ 1) × AnyGuardOpen w × (e ≡ GuardOpen))
  refused-shared n e i (inl h) = inl (several n (standing_at w k) i h.0, h.1)
  refused-shared n e i (inr h) = inr (alone-one n (standing_at w k) i h.0, h.1, h.2)

-- no value changes by what is given up
module _ {T : Type 0} where
  pub given_all-values : (w : World T) (p : ℕ) (hs : List OwnerOrCell) → (given_all w p hs).values ≡ w.values
  given_all-values w p hs =
      keeps-given_all p (λ (u : World T). u.values ≡ w.values) (λ u k out e. e) (λ u c e. e) (λ u k n m is e. e) w hs refl

  dropped_out-others : (holds : T → List OwnerOrCell) (w : World T) (p k : ℕ) (o : Option T) (j : ℕ) → j ≢ k →
      value_at (dropped_out holds w p k o) j ≡ value_at w j
  dropped_out-others holds w p k None j apart = refl
  dropped_out-others holds w p k (Some v) j apart =
      ap (λ (vs : List (Option T)). slice_index_or vs j None) (given_all-values (vacated w k) p (holds v)) ∙ get_or-set_other w.values k j None None apart

  -- where an item is dropped, every other slot keeps its value
  pub dropped-others : (holds : T → List OwnerOrCell) (w : World T) (p k j : ℕ) → j ≢ k → value_at (dropped holds w p k) j ≡ value_at w j
  dropped-others holds w p k j apart = dropped_out-others holds w p k (value_at w k) j apart

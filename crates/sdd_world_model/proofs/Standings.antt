-- How an item stands that is out, and what an owner that is given makes of it
use Rattle.std.proofs.Common.{◌≡◌, ◌≢◌, inl, inr, ℕ, ◌<◌, List, [], ◌∷◌, length, Bool, refl, sym, ap, ◌∙◌, arith, true, false, nat_lt, Some, None, Option, zero, suc, slice_index_or}
use Rattle.std.specs.Prelude.{◌-◌, is_some}
use Rattle.std.proofs.lemmas.Bool.Decides.{nat_tests}
use Rattle.sdd_participants.specs.declared.standing.Standing.{Standing}
use Rattle.sdd_participants.specs.declared.standing.Standing.TheVariants.{Owned, Raw, Shared, Retired, Private as privately}
use Rattle.sdd_world_model.specs.Slots.{is_waiting}
use Rattle.sdd_world_model.specs.World.{World, standing_at}
use Rattle.sdd_world_model.specs.WorldChanges.{retired, with_standing, owner_given}
use Rattle.sdd_world_model.specs.InPlace.{IsAlone}
use Rattle.sdd_world_model.specs.Out.{is_out}

-- what is out is there, and waits not
pub out-some : (s : Option Standing) → is_out s ≡ true → is_some s ≡ true
out-some None out = absurd (cc)
out-some (Some s) out = refl

pub out-waits-not : (s : Option Standing) → is_out s ≡ true → is_waiting s ≡ false
out-waits-not None out = refl
out-waits-not (Some Owned) out = refl
out-waits-not (Some Raw) out = refl
out-waits-not (Some (Shared n)) out = refl
out-waits-not (Some Retired) out = absurd (cc)
out-waits-not (Some (privately c)) out = absurd (cc)

pub waits-out-not : (s : Option Standing) → is_waiting s ≡ true → is_out s ≡ false
waits-out-not None waits = absurd (cc)
waits-out-not (Some Owned) waits = absurd (cc)
waits-out-not (Some Raw) waits = absurd (cc)
waits-out-not (Some (Shared n)) waits = absurd (cc)
waits-out-not (Some Retired) waits = refl
waits-out-not (Some (privately c)) waits = refl

-- what has one owner is out
pub alone-out : (s : Option Standing) → IsAlone s → is_out s ≡ true
alone-out s (inl e) = ap is_out e
alone-out s (inr e) = ap is_out e

pub out-inside : (ss : List (Option Standing)) (k : ℕ) → is_out (slice_index_or ss k None) ≡ true → k < length ss
out-inside [] k out = absurd (cc)
out-inside (s ∷ ss) zero out = omega arith
out-inside (s ∷ ss) (suc k) out = omega (arith, out-inside ss k out)

-- what is not out is another slot's
pub out-apart : (ss : List (Option Standing)) (j k : ℕ) → is_out (slice_index_or ss j None) ≡ true → is_out (slice_index_or ss k None) ≡ false → k ≢ j
out-apart ss j k out idle = λ e.
    let never : true ≡ false = sym out ∙ ap (λ (n : ℕ). is_out (slice_index_or ss n None)) (sym e) ∙ idle in
    absurd (cc)

-- An owner is given: the world is as it was, or the item was out and waits, or it was shared by several and is by one fewer.
module _ {T : Type 0} (P : World T → Type 0) (w : World T) (p k : ℕ) where
  shared-given : (n : ℕ) → P (retired w p k) → (1 < n → P (with_standing w k (Shared (n - 1)))) → (b : Bool) → nat_lt 1 n ≡ b →
      P (owner_given w p k (Some (Shared n)))
  shared-given n last more true e = rw e (more (grind (arith, nat_tests, e)))
  shared-given n last more false e = rw e last

  pub owner-given : (s : Option Standing) → standing_at w k ≡ s → P w → (is_out (standing_at w k) ≡ true → P (retired w p k)) →
      ((n : ℕ) → standing_at w k ≡ Some (Shared n) → 1 < n → P (with_standing w k (Shared (n - 1)))) → P (owner_given w p k s)
  owner-given None is same waits fewer = same
  owner-given (Some Owned) is same waits fewer = waits (ap is_out is)
  owner-given (Some Raw) is same waits fewer = same
  owner-given (Some (Shared n)) is same waits fewer = shared-given n (waits (ap is_out is)) (λ more. fewer n is more) (nat_lt 1 n) refl
  owner-given (Some Retired) is same waits fewer = same
  owner-given (Some (privately c)) is same waits fewer = same

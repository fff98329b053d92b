-- What is always true of a participant as the generic calls see it
use Rattle.std.proofs.Common.{◌≡◌, ◌↔◌, ℕ, zero, suc, Bool, true, false, IsTrue, List, replicate, slice_index_or, sym, refl, ap, ◌∙◌, arith}
use Rattle.std.specs.Prelude.{Option, Some, None}
use Rattle.std.proofs.lemmas.Bool.{true≢false}
use base.Stored.{Gv}
use denote.RattleType.{RattleType}
use Rattle.sdd_shared_values.specs.SharedValues.{showing}
use Rattle.sdd_participants.specs.EpochState.{nobody}
use Rattle.sdd_world_model.specs.OwnerOrCell.{OwnerOrCell}
use Rattle.sdd_world_model.specs.World.{place_at, value_at}
use Rattle.sdd_domain_steps.specs.Values.{one_showing}
use Rattle.sdd_domain_steps.specs.LocalState.{LocalState, IsLone}
use Rattle.sdd_domain_steps.specs.Local.{LocalModel, world_of}
use Rattle.sdd_domain_core.specs.Space.{ShowsBy, is_lone}

replicate_at : {A : Type 0} (n : ℕ) (x d : A) → slice_index_or (replicate (suc n) x) n d ≡ x
replicate_at zero x d = refl
replicate_at (suc n) x d = replicate_at n x d

abbrev value_or : {A : Type 0} → A → Option A → A
value_or d None = d
value_or d (Some x) = x

pub same_value : {A : Type 0} (u v : A) → Some u ≡ Some v → u ≡ v
same_value u v e = ap (value_or u) e

pub own_is_place : {T J : Type 0} (p : LocalModel T J) → p.member.own ≡ place_at (world_of p) p.member.place
own_is_place p = sym (replicate_at p.member.place p.member.own nobody)

module _ {T : Type 0} (shown : T → Gv) (holds : T → List OwnerOrCell) where
  pub shows_is_value : {J : Type 0} (p : LocalModel T J) (b : Bool) → IsTrue b → (slot : ℕ) (value : T)
      → ShowsBy b shown holds p slot value ↔ (value_at (world_of p) slot ≡ Some value)
  shows_is_value p true exact slot value = (λ h. h, λ h. h)
  shows_is_value p false exact slot value = absurd (true≢false (sym exact))

module _ {J : Type 0} (R : RattleType) (p : LocalModel R.Denot J) where
  pub one_shown : (holds : R.Denot → List OwnerOrCell) (slot : ℕ) (u v : R.Denot) (b : Bool) → ShowsBy b (showing R) holds p slot u
      → ShowsBy b (showing R) holds p slot v → u ≡ v
  one_shown holds slot u v true a b = same_value u v (sym a ∙ b)
  one_shown holds slot u v false a b = one_showing R u v (b.only (showing R u) a.known)

-- where nobody else takes part nothing need be seen
pub lone_asks_nothing : {J : Type 0} (m : LocalState J) → IsTrue (is_lone m) → ¬ ¬ (IsLone m)
lone_asks_nothing m exact asks = asks (grind arith)

-- When an item is changed, or dropped, in its place
use Rattle.std.specs.Prelude.{ℕ, ◌≡◌, ◌⊎◌, IsTrue, Option, Some}
use Rattle.sdd_core.specs.declared.refused.Refused.{Refused}
use Rattle.sdd_core.specs.declared.refused.Refused.TheVariants.{GuardOpen, NotAlone}
use Rattle.sdd_participants.specs.declared.standing.Standing.{Standing}
use Rattle.sdd_participants.specs.declared.standing.Standing.TheVariants.{Owned, Shared}
use Rattle.sdd_world_model.specs.Slots.{has_others}
use Rattle.sdd_world_model.specs.World.{World, AnyGuardOpen, standing_at}

-- the item has one owner
abbrev pub IsAlone : Option Standing → Type 0
IsAlone s = (s ≡ Some Owned) ⊎ (s ≡ Some (Shared 1))

-- its owner is alone, and no guard is open
pub record MayInPlace {T : Type 0} (w : World T) (k : ℕ) : Type 0 where
  pub alone : IsAlone (standing_at w k)
  pub quiet : ¬ (AnyGuardOpen w)

-- why an owner may not: others own the item, or else a guard is open
abbrev pub RefusedInPlace : {T : Type 0} → World T → ℕ → Refused → Type 0
RefusedInPlace w k e =
    (IsTrue (has_others (standing_at w k)) × (e ≡ NotAlone)) ⊎ (IsAlone (standing_at w k) × AnyGuardOpen w × (e ≡ GuardOpen))

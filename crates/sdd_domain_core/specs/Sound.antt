-- What is always true of a participant
use Rattle.std.specs.Prelude.{ℕ, ◌≡◌, List, [], Some, None, slice_index_or}
use base.Stored.{Gv}
use Rattle.sdd_world_model.specs.OwnerOrCell.{OwnerOrCell, AreOf}
use Rattle.sdd_world_model.specs.WorldInvariant.{IsWhole}
use Rattle.sdd_domain_steps.specs.LocalState.{IsLone}
use Rattle.sdd_domain_steps.specs.SpaceIds.{home_in}
use Rattle.sdd_domain_steps.specs.Local.{LocalModel, world_of}

-- nothing is left to reclaim, and no collector is being closed; what its values hold is of its domain; where it is lone its world is whole
pub record IsSound {T J : Type 0} (holds : T → List OwnerOrCell) (p : LocalModel T J) : Type 0 where
  pub settled : p.member.due ≡ []
  pub closes : p.member.slots.closes ≡ None
  pub home : (place : ℕ) (value : T) (g : Gv) → slice_index_or p.entries place None ≡ Some (value, g) → AreOf (home_in p.member) (holds value)
  pub whole : IsLone p.member → IsWhole (world_of p)

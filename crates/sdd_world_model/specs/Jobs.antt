-- Each place of a job is freed once, by the opening that finds it due
use Rattle.std.specs.Prelude.{ℕ, ◌≡◌, Contains, IsSome, List, None, is_some}
use Rattle.sdd_participants.specs.declared.waiting.LimboEntry.TheVariants.{Job}
use Rattle.sdd_participants.specs.Slab.{entry_at}
use Rattle.sdd_world_model.specs.OwnerOrCell.{OwnerOrCell}
use Rattle.sdd_world_model.specs.World.{World, IsPlaceOf}
use Rattle.sdd_world_model.specs.WorldChanges.{opened, reclaims}
use Rattle.sdd_world_model.specs.WorldInvariant.{once_if, times_deferred}

pub record RunsJobsOnce {T : Type 0} (holds : T → List OwnerOrCell) (w : World T) : Type 0 where
  -- a job waits once exactly where a place of the table of jobs is taken
  pub waits : (j : ℕ) → times_deferred w j ≡ once_if (is_some (entry_at w.jobs j))
  -- a place that an opening finds due is taken until then, and free after it
  pub runs : (p j : ℕ) → IsPlaceOf w p → Contains (reclaims w p) (Job j) → IsSome (entry_at w.jobs j) × (entry_at (opened holds w p).jobs j ≡ None)
  -- every other place is as before
  pub keeps : (p j : ℕ) → IsPlaceOf w p → ¬ (Contains (reclaims w p) (Job j)) → entry_at (opened holds w p).jobs j ≡ entry_at w.jobs j

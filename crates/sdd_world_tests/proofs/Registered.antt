-- Who registers leaves the count of epochs, and how many guards a participant may have open
use Rattle.std.proofs.Common.{◌++◌, [], ◌∷◌, ℕ, Bool, true, false, Some, length, nat_lt, refl, slice_set, if◌then◌else◌}
use Rattle.sdd_participants.specs.EpochState.{EpochState, newcomer, registered}
use Rattle.sdd_participants.specs.Slab.{with_entry}
use Rattle.sdd_participants.specs.declared.place_states.PlaceState.TheVariants.{Live}
use Rattle.sdd_world_tests.specs.LeavesTime.{LeavesTime}

module _ (t : EpochState) (p : ℕ) where
  whichever : (again : Bool) → LeavesTime t
      (if again then record t { places = slice_set t.places p (newcomer t.room); phases = with_entry t.phases p Live }
      else record t { places = t.places ++ newcomer t.room ∷ []; phases = t.phases ++ Some Live ∷ [] })
  whichever true = record { count = refl; nesting = refl }
  whichever false = record { count = refl; nesting = refl }

  pub leaves-time : LeavesTime t (registered t p)
  leaves-time = whichever (nat_lt p (length t.places))

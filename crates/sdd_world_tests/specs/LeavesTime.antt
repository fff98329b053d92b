-- What a participant's coming leaves as it is
use Rattle.std.specs.Prelude.{◌≡◌}
use Rattle.sdd_participants.specs.EpochState.{EpochState}

-- the same count of epochs, and as many guards that a participant may have open
pub record LeavesTime (old new : EpochState) : Type 0 where
  pub count : new.count ≡ old.count
  pub nesting : new.nesting ≡ old.nesting

-- What the steps of a test leave as it is
use Rattle.std.specs.Prelude.{◌≡◌, length}
use Rattle.sdd_participants.specs.EpochState.{lives}
use Rattle.sdd_world_model.specs.World.{World}

-- the same home, and the same participants
pub record Stays {T : Type 0} (old new : World T) : Type 0 where
  pub home : new.home ≡ old.home
  pub places : length new.time.places ≡ length old.time.places
  pub live : lives new.time ≡ lives old.time

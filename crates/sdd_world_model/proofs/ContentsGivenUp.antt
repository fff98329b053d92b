-- What an owner that is let go leaves of a participant's own
use Rattle.std.proofs.Common.{◌≡◌, ℕ, Bool, true, false, Some, None}
use Rattle.std.specs.Prelude.{if◌then◌else◌}
use Rattle.sdd_participants.specs.declared.waiting.LimboEntry.TheVariants.{Item}
use Rattle.sdd_participants.specs.EpochState as time
use Rattle.sdd_participants.specs.declared.participant.Participant.{Participant}
use Rattle.sdd_world_model.specs.ParticipantChanges.{HasContentsGivenUp}

-- the last owner's item waits, and another's does not
pub spills-if : (last : Bool) (k : ℕ) (p q : Participant) → q ≡ (if last then time.awaiting (Item k) p else p) → HasContentsGivenUp p q
spills-if true k p q e = (Some k, e)
spills-if false k p q e = (None, e)

use Rattle.sdd_participants.proofs.Adoptions.{keeps-closed}
use Rattle.sdd_participants.proofs.epoch_state.EpochState.close.Goals as goal

pub returns-else-index-gt1-clause-kept : goal.returns-else-index-gt1-clause-kept
returns-else-index-gt1-clause-kept c = rw c.leave.ensures (keeps-closed c.args.self.now c.args.place c.requires.live)

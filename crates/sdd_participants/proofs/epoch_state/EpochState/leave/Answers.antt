use Rattle.std.proofs.Common.{true}
use Rattle.sdd_participants.proofs.Adoptions.{scans-there, scans-if}
use Rattle.sdd_participants.proofs.epoch_state.EpochState.leave.Goals as goal

pub rest-requires : goal.rest-requires
rest-requires c = rw c.scan.ensures (scans-there c.requires.live.0 (scans-if c.args.self.now c.args.place c.requires.live true))

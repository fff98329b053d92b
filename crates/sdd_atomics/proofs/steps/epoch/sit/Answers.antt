use Rattle.std.proofs.Common.{arith}
use Rattle.sdd_atomics.proofs.Allowed.{may_sit}
use Rattle.sdd_atomics.proofs.steps.epoch.sit.Goals as goal

pub load_new_seat-seat-requires : goal.load_new_seat-seat-requires
load_new_seat-seat-requires c = let sized = c.args.table.now.sized in (omega arith, may_sit _ _ _ 0)

use Rattle.std.proofs.Common.{◌<◌, arith}
use Rattle.sdd_domain_invariant.specs.Codes.{private_word}
use Rattle.sdd_domain_invariant.specs.Collectors.CollectorWordSteps.{no_collector}
use Rattle.sdd_domain_steps.proofs.PrivateItems.{still_lost, left_or_emptied}
use Rattle.sdd_domain_steps.proofs.collectors.private_items.try_to_leave.Goals as goal

pub leave_to_close-requires-clause-waits : goal.leave_to_close-requires-clause-waits
leave_to_close-requires-clause-waits c = let still = still_lost c.args.slot c.args.found c.args.seat.now.me.0 c.requires.lost c.if-found-ne-EMPTYING.false in
    (no_collector, still.1)

pub returns : goal.returns
returns c = let s = c.args.seat.now in let still = still_lost c.args.slot c.args.found s.me.0 c.requires.lost c.if-found-ne-EMPTYING.false in
    let fits : c.leave_to_close.result < private_word no_collector = omega arith in
    left_or_emptied c.args.slot c.leave_to_close.result s c.leave_to_close.new.seat still.0 fits (c.leave_to_close.ensures no_collector still.1)

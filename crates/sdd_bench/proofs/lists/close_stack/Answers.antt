use Rattle.sdd_bench.proofs.Leaving.{guard-over}
use Rattle.sdd_bench.proofs.Waiting.{more-guards}
use Rattle.sdd_bench.proofs.lists.close_stack.Goals as goal

pub returns-clause-guards : goal.returns-clause-guards
returns-clause-guards g c =
    let own = g.S.Caller.own in
    guard-over (own c.args.space.now) (own c.new.new.s) (own c.close.new.s) (own c.close-in-Ok.new.s) c.in-Ok.ensures.own.1
    (more-guards (own c.new.new.s) (own c.close.new.s) c.close.ensures.own) c.close-in-Ok.ensures.own

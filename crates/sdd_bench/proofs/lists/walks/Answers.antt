use Rattle.sdd_bench.proofs.Leaving.{guard-over}
use Rattle.sdd_bench.proofs.lists.walks.Goals as goal

pub returns-clause-guards : goal.returns-clause-guards
returns-clause-guards g c =
    let own = g.S.Caller.own in
    guard-over (own c.args.space.now) (own c.new.new.s) (own c.walks_under-sum.new.space) (own c.close.new.s) c.in_ok-guard.ensures.own.1
    c.walks_under-sum.ensures.guards c.close.ensures.own

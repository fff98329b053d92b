use Rattle.std.proofs.Common.{◌∙◌}
use Rattle.sdd_bench.proofs.Waiting.{more-guards}
use Rattle.sdd_bench.proofs.lists.walks_under.Goals as goal

pub returns-in_err-queue-clause-guards : goal.returns-in_err-queue-clause-guards
returns-in_err-queue-clause-guards g c =
    let own = g.S.Caller.own in
    more-guards (own c.args.space.now) (own c.new.new.s) c.in_err-queue.ensures.own

pub returns-clause-guards : goal.returns-clause-guards
returns-clause-guards g c =
    let own = g.S.Caller.own in
    more-guards (own c.walk_turns-sum.new.space) (own c.close.new.s) c.close.ensures.own ∙ c.walk_turns-sum.ensures.guards
    ∙ more-guards (own c.args.space.now) (own c.new.new.s) c.in_ok-queue.ensures.own

use Rattle.std.proofs.Common.{◌∙◌}
use Rattle.sdd_bench.proofs.Waiting.{more-guards}
use Rattle.sdd_bench.proofs.lists.through_queue.Goals as goal

pub returns-in_err-kept-clause-guards : goal.returns-in_err-kept-clause-guards
returns-in_err-kept-clause-guards g c =
    let own = g.S.Caller.own in
    c.kept.ensures.guards ∙ more-guards (own c.args.space.now) (own c.push-pushed.new.s) c.push-pushed.ensures.own

pub returns-clause-guards : goal.returns-clause-guards
returns-clause-guards g c =
    let own = g.S.Caller.own in
    c.number.ensures.guards ∙ more-guards (own c.kept.new.space) (own c.pop-popped.new.s) c.pop-popped.ensures.own
    ∙ c.kept.ensures.guards ∙ more-guards (own c.args.space.now) (own c.push-pushed.new.s) c.push-pushed.ensures.own

use Rattle.std.proofs.Common.{◌∙◌}
use Rattle.sdd_bench.proofs.Waiting.{more-guards, nests-on}
use Rattle.sdd_bench.proofs.lists.queues.Goals as goal

pub returns-in_err-queue-clause-guards : goal.returns-in_err-queue-clause-guards
returns-in_err-queue-clause-guards g c =
    let own = g.S.Caller.own in
    more-guards (own c.args.space.now) (own c.new.new.s) c.in_err-queue.ensures.own

pub close_queue-requires-clause-may : goal.close_queue-requires-clause-may
close_queue-requires-clause-may g c =
    let own = g.S.Caller.own in let caller = g.S.Caller.caller in
    nests-on (caller c.args.space.now) (caller c.queue_turns-sum.new.space) (own c.args.space.now) (own c.queue_turns-sum.new.space)
    (c.queue_turns-sum.ensures.caller ∙ c.in_ok-queue.ensures.unmoved.caller)
    (c.queue_turns-sum.ensures.guards ∙ more-guards (own c.args.space.now) (own c.new.new.s) c.in_ok-queue.ensures.own) c.requires.may

pub returns-clause-guards : goal.returns-clause-guards
returns-clause-guards g c =
    let own = g.S.Caller.own in
    c.close_queue.ensures.guards ∙ c.queue_turns-sum.ensures.guards ∙ more-guards (own c.args.space.now) (own c.new.new.s) c.in_ok-queue.ensures.own

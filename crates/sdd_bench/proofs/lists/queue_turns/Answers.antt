use Rattle.std.proofs.Common.{◌∙◌}
use Rattle.sdd_bench.proofs.Leaving.{as-many, guard-over}
use Rattle.sdd_bench.proofs.lists.queue_turns.Goals as goal

pub returns-in_err-guard-clause-guards : goal.returns-in_err-guard-clause-guards
returns-in_err-guard-clause-guards g c = as-many c.in_err-guard.ensures.own.2 ∙ c.loop-turn.invariant.guards

pub returns-in_err-sum-clause-guards : goal.returns-in_err-sum-clause-guards
returns-in_err-sum-clause-guards g c =
    let own = g.S.Caller.own in
    guard-over (own c.loop-turn.space) (own c.new.new.s) (own c.through_queue-number.new.space) (own c.close.new.s) c.in_ok-guard.ensures.own.1
    c.through_queue-number.ensures.guards c.close.ensures.own ∙ c.loop-turn.invariant.guards

pub loop-turn-preserved : goal.loop-turn-preserved
loop-turn-preserved g c =
    let own = g.S.Caller.own in
    record {
      caller = c.close.ensures.caller ∙ c.through_queue-number.ensures.caller ∙ c.in_ok-guard.ensures.caller ∙ c.loop-turn.invariant.caller;
      guards =
          guard-over (own c.loop-turn.space) (own c.new.new.s) (own c.through_queue-number.new.space) (own c.close.new.s) c.in_ok-guard.ensures.own.1
          c.through_queue-number.ensures.guards c.close.ensures.own ∙ c.loop-turn.invariant.guards;
    }

use Rattle.std.proofs.Common.{ap}
use Rattle.sdd_participants.specs.declared.participant.Participant.{Participant}
use Rattle.sdd_bench.proofs.Leaving.{as-many, as-much, in-turn, under-guard}
use Rattle.sdd_bench.proofs.turns.jobs.Goals as goal

pub returns-in-Err : goal.returns-in-Err
returns-in-Err g c =
    let opening = c.in_ok-guard.ensures in let none = c.in-Err.ensures in let closing = c.close.ensures in
    let own = g.S.Caller.own in let world = g.S.Caller.world in
    in-turn _ _ _ _ _ _ _ _ _ c.loop.invariant
    (under-guard _ _ _ _ _ (own c.new.new.s) (own c.defer_execute-deferred.new.s) _ _ (world c.new.new.s) (world c.defer_execute-deferred.new.s) _
    opening.caller opening.own.1 (λ exact. (opening.exact exact).1)
    (record {
      caller = none.unmoved.caller;
      guards = as-many none.own;
      kept = λ exact. as-much ((none.exact exact).2);
    })
    closing.caller closing.own closing.exact)

-- a job that waits is nothing that is out
pub loop-preserved : goal.loop-preserved
loop-preserved g c =
    let opening = c.in_ok-guard.ensures in let deferring = c.in_default.ensures in let closing = c.close.ensures in
    let own = g.S.Caller.own in let world = g.S.Caller.world in
    in-turn _ _ _ _ _ _ _ _ _ c.loop.invariant
    (under-guard _ _ _ _ _ (own c.new.new.s) (own c.defer_execute-deferred.new.s) _ _ (world c.new.new.s) (world c.defer_execute-deferred.new.s) _
    opening.caller opening.own.1 (λ exact. (opening.exact exact).1)
    (record {
      caller = deferring.unmoved.caller;
      guards = ap (λ (p : Participant). p.guards) deferring.own.1;
      kept = λ exact. as-much ((deferring.exact exact).2);
    })
    closing.caller closing.own closing.exact)

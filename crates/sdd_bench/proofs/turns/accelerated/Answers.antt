use Rattle.sdd_bench.proofs.Leaving.{as-many, as-much, in-turn, under-guard}
use Rattle.sdd_bench.proofs.turns.accelerated.Goals as goal

pub loop-turn-preserved : goal.loop-turn-preserved
loop-turn-preserved g c =
    let opening = c.in_ok-guard.ensures in let faster = c.accelerate.ensures in let closing = c.close.ensures in
    let own = g.S.Caller.own in let world = g.S.Caller.world in
    in-turn _ _ _ _ _ _ _ _ _ c.loop-turn.invariant
    (under-guard _ _ _ _ _ (own c.new.new.s) (own c.accelerate.new.s) _ _ (world c.new.new.s) (world c.accelerate.new.s) _
    opening.caller opening.own.1 (λ exact. (opening.exact exact).1)
    (record {
      caller = faster.unmoved.caller;
      guards = as-many faster.own;
      kept = λ exact. as-much (faster.exact exact);
    })
    closing.caller closing.own closing.exact)

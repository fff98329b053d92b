use Rattle.std.proofs.Common.{refl}
use Rattle.sdd_bench.proofs.Leaving.{in-turn, under-guard}
use Rattle.sdd_bench.proofs.turns.plain.Goals as goal

pub loop-turn-preserved : goal.loop-turn-preserved
loop-turn-preserved g c =
    let opening = c.in_ok-guard.ensures in let closing = c.close.ensures in
    let own = g.S.Caller.own c.new.new.s in let world = g.S.Caller.world c.new.new.s in
    in-turn _ _ _ _ _ _ _ _ _ c.loop-turn.invariant
    (under-guard _ _ _ _ _ own own _ _ world world _ opening.caller opening.own.1 (λ exact. (opening.exact exact).1)
    (record { caller = refl; guards = refl; kept = λ exact. refl }) closing.caller closing.own closing.exact)

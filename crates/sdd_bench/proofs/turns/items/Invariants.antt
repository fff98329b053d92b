use Rattle.sdd_bench.specs.Leaves.{Leaves}
use Rattle.sdd_bench.proofs.turns.items.Given as goal

abbrev pub invariant-loop-turn : goal.invariant-loop-turn
invariant-loop-turn g l =
    let caller = g.S.Caller.caller in let own = g.S.Caller.own in let world = g.S.Caller.world in
    Leaves (caller l.fn.space) (own l.fn.space) (world l.fn.space) (caller l.space) (own l.space) (world l.space)

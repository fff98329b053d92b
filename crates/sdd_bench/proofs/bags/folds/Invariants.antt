use Rattle.std.proofs.Common.{◌≡◌}
use Rattle.sdd_bench.proofs.bags.folds.Given as goal

abbrev pub invariant-loop-turn : goal.invariant-loop-turn
invariant-loop-turn g l = g.S.Caller.caller l.space ≡ g.S.Caller.caller l.fn.space

use Rattle.std.proofs.Common.{◌≡◌}
use Rattle.sdd_space.specs.CallerId.{IsExact}
use Rattle.sdd_bench.proofs.turns.sum_seen.Given as goal

abbrev pub invariant-loop-turn : goal.invariant-loop-turn
invariant-loop-turn g l =
    let s = g.S.Caller.caller in let o = g.S.Caller.own in let w = g.S.Caller.world in
    record {
      caller : s l.space ≡ s l.fn.space;
      own : o l.space ≡ o l.fn.space;
      exact : IsExact (s l.fn.space) → w l.space ≡ w l.fn.space;
    }

use Rattle.std.proofs.Common.{◌≡◌}
use Rattle.sdd_lists.specs.Walk.{IsWalkOf, steps_left}
use Rattle.sdd_bench.proofs.lists.sum_walked.Given as goal

abbrev pub invariant-loop-value : goal.invariant-loop-value
invariant-loop-value g l = record {
  caller : g.S.Caller.caller l.space ≡ g.S.Caller.caller l.fn.space;
  guards : (g.S.Caller.own l.space).guards ≡ (g.S.Caller.own l.fn.space).guards;
  walk : IsWalkOf (g.S.Caller.caller l.fn.space).home.cells l.walk;
}

abbrev pub decreases-loop-value : goal.decreases-loop-value
decreases-loop-value g l = steps_left l.walk

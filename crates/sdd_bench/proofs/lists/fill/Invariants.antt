use Rattle.std.proofs.Common.{◌≡◌}
use Rattle.sdd_bench.proofs.lists.fill.Given as goal

abbrev pub invariant-loop-number : goal.invariant-loop-number
invariant-loop-number g l = record {
  caller : g.S.Caller.caller l.space ≡ g.S.Caller.caller l.fn.space;
  guards : (g.S.Caller.own l.space).guards ≡ (g.S.Caller.own l.fn.space).guards;
}

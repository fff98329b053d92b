use Rattle.std.proofs.Common.{◌≡◌}
use Rattle.sdd_bench.proofs.lists.stack_turns.Given as goal

abbrev pub invariant-loop-turn : goal.invariant-loop-turn
invariant-loop-turn g l = record {
  caller : g.S.Caller.caller l.space ≡ g.S.Caller.caller l.fn.space;
  guards : (g.S.Caller.own l.space).guards ≡ (g.S.Caller.own l.fn.space).guards;
}

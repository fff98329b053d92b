use Rattle.std.proofs.Common.{◌≡◌}
use Rattle.sdd_world_tests.proofs.lists.rounds.fill.Given as goal

abbrev pub invariant-loop-number : goal.invariant-loop-number
invariant-loop-number g l = g.S.Caller.caller l.s ≡ g.S.Caller.caller l.fn.s

use Rattle.std.proofs.Common.{◌≡◌}
use Rattle.sdd_world_tests.proofs.lists.rounds.queues.Given as goal

abbrev pub invariant-loop-turn : goal.invariant-loop-turn
invariant-loop-turn g l = g.S.Caller.caller l.s ≡ g.S.Caller.caller l.fn.s

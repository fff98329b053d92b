use Rattle.std.specs.Prelude.{◌≡◌}
use Rattle.sdd_world_tests.proofs.cells.steps.shows.Given as goal

abbrev pub invariant-loop-epoch : goal.invariant-loop-epoch
invariant-loop-epoch g l = let caller = g.S.Caller.caller in caller l.s ≡ caller l.fn.s

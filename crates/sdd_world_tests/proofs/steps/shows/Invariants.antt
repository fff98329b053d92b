use Rattle.sdd_world_tests.specs.Stays.{Stays}
use Rattle.sdd_world_tests.proofs.steps.shows.Given as goal

abbrev pub invariant-loop-epoch : goal.invariant-loop-epoch
invariant-loop-epoch g l = Stays l.fn.world l.world

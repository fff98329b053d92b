use Rattle.sdd_world_tests.specs.Stays.{Stays}
use Rattle.sdd_world_tests.proofs.openings.shows_128_times.Given as goal

abbrev pub invariant-loop-opening : goal.invariant-loop-opening
invariant-loop-opening g l = Stays l.fn.world l.world

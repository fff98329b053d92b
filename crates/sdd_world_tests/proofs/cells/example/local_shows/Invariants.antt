use Rattle.std.specs.Prelude.{◌≡◌}
use Rattle.sdd_domain.specs.Space.{caller_of}
use Rattle.sdd_world_tests.proofs.cells.example.local_shows.Given as goal

abbrev pub invariant-loop-epoch : goal.invariant-loop-epoch
invariant-loop-epoch g l = caller_of l.local ≡ caller_of l.fn.local

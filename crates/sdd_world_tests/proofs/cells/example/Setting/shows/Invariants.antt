use Rattle.sdd_world_tests.proofs.cells.example.Setting.shows.Given as goal

abbrev pub invariant-loop-epoch : goal.invariant-loop-epoch
invariant-loop-epoch g l = Unit {0}

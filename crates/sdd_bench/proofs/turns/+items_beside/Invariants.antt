use Rattle.sdd_bench.proofs.turns.+items_beside.Given as goal

abbrev pub decreases-items_beside : goal.decreases-items_beside
decreases-items_beside g l = l.others

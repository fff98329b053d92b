use Rattle.sdd_bench.proofs.places.+register_all.Given as goal

abbrev pub decreases-register_all : goal.decreases-register_all
decreases-register_all l = l.participants

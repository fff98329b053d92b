use Rattle.sdd_domain_tests.proofs.worked.slots.+fills_all.Given as goal

abbrev pub decreases-fills_all : goal.decreases-fills_all
decreases-fills_all g l = l.items

use Rattle.sdd_domain_tests.proofs.worked.slots.+fills.Given as goal

abbrev pub decreases-fills : goal.decreases-fills
decreases-fills g l = l.items

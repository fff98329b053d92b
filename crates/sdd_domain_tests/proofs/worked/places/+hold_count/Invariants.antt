use Rattle.sdd_domain_tests.proofs.worked.places.+hold_count.Given as goal

abbrev pub decreases-hold_count : goal.decreases-hold_count
decreases-hold_count g l = l.places

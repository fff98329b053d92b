use Rattle.sdd_domain_tests.proofs.worked.places.+fill_places.Given as goal

abbrev pub decreases-fill_places : goal.decreases-fill_places
decreases-fill_places g l = l.places

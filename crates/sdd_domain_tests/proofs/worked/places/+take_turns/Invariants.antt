use Rattle.sdd_domain_tests.proofs.worked.places.+take_turns.Given as goal

abbrev pub decreases-take_turns : goal.decreases-take_turns
decreases-take_turns g l = l.places

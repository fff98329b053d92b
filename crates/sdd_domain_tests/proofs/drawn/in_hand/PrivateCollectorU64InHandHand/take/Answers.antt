use Rattle.std.proofs.Common.{rules}
use Rattle.sdd_domain_tests.specs.Hands.{IsHandOf}
use Rattle.sdd_domain_tests.proofs.drawn.in_hand.PrivateCollectorU64InHandHand.take.Goals as goal

-- the others are as they were
pub returns-clause-rest : goal.returns-clause-rest
unfolding IsHandOf
returns-clause-rest c = λ caller held. let left = c.taken.ensures.rest caller held.collectors in search rules

use Rattle.std.proofs.Common.{rules}
use Rattle.sdd_domain_tests.specs.Hands.{AreOwnersOf}
use Rattle.sdd_domain_tests.proofs.drawn.in_hand.AtomicCellU64InHandOwnersInHand.take.Goals as goal

-- the others are as they were
pub returns-clause-rest : goal.returns-clause-rest
unfolding AreOwnersOf
returns-clause-rest g c = λ caller held. let left = c.taken.ensures.rest caller held.cells in search rules

use Rattle.sdd_space.specs.Shared.{slot_of}
use Rattle.sdd_lists.proofs.MoreWaiting.{grows-if}
use Rattle.sdd_lists.proofs.moves.give_up.Goals as goal

pub returns-in-Some-clause-own : goal.returns-in-Some-clause-own
returns-in-Some-clause-own g c = grows-if c.release.result (slot_of c.in-Some.owner) _ _ c.release.ensures.own

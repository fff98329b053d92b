use Rattle.sdd_space.specs.Shared.{slot_of}
use Rattle.sdd_lists.proofs.MoreWaiting.{grows-if}
use Rattle.sdd_bag.proofs.giving.SurrenderGiver.shared.Goals as goal

pub returns-clause-own : goal.returns-clause-own
returns-clause-own g c = grows-if c.release.result (slot_of c.args.owner) _ _ c.release.ensures.own

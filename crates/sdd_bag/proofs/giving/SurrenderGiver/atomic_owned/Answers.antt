use Rattle.sdd_lists.proofs.MoreWaiting.{grows-spilled}
use Rattle.sdd_bag.proofs.giving.SurrenderGiver.atomic_owned.Goals as goal

pub returns-clause-own : goal.returns-clause-own
returns-clause-own g c = grows-spilled _ _ c.close.ensures.own

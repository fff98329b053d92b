use Rattle.std.proofs.Common.{true}
use Rattle.sdd_space.specs.Owned.{slot_of}
use Rattle.sdd_lists.proofs.MoreWaiting.{grows-if}
use Rattle.sdd_bag.proofs.giving.SurrenderGiver.owned.Goals as goal

pub returns-clause-own : goal.returns-clause-own
returns-clause-own g c = grows-if true (slot_of c.args.owner) _ _ c.retire.ensures.own

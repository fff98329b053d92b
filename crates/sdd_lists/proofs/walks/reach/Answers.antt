use Rattle.std.proofs.Common.{arith}
use Rattle.sdd_lists.proofs.ListLength.{no-longer}
use Rattle.sdd_lists.proofs.walks.reach.Goals as goal

pub returns : goal.returns
returns g c = λ e es linked.
    omega (arith, no-longer g.T.LinkedList.link (g.S.Caller.world c.args.s.now) es linked, c.values_fit_slots.ensures.many e, c.slots.ensures.exact e)

use Rattle.sdd_world_core.proofs.Lending.{lent-ended}
use Rattle.sdd_world_core.proofs.world_core.WorldCore.end.Goals as goal

pub returns-clause-lent : goal.returns-clause-lent
returns-clause-lent g c =
    let live = rw (← c.self.view_is) at c.requires.place in
    rw (c.end.ensures, ← c.self.view_is) (λ shut i k. lent-ended g.T.Item.holds _ _ c.args.place live shut i k)

use Rattle.sdd_world_core.proofs.Lending.{lent-revived}
use Rattle.sdd_world_core.proofs.world_core.WorldCore.some_place.Goals as goal

pub returns-clause-lent : goal.returns-clause-lent
returns-clause-lent g c = rw (c.revive.ensures.revived, ← c.self.view_is) (λ i. lent-revived _ _ c.in-Some.place i)

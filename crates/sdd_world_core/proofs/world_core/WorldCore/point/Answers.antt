use Rattle.std.proofs.Common.{refl}
use Rattle.sdd_world_core.proofs.Lending.{lent-cells}
use Rattle.sdd_world_core.proofs.world_core.WorldCore.point.Goals as goal

pub returns-clause-lent : goal.returns-clause-lent
returns-clause-lent g c = rw (← c.self.view_is) (λ _ k. lent-cells _ _ _ _ _ refl k)

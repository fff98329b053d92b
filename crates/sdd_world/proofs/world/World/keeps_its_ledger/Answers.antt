use Rattle.sdd_world_model.proofs.Ledger.{ledger-laws}
use Rattle.sdd_world.proofs.world.World.keeps_its_ledger.Goals as goal

pub returns : goal.returns
returns g c = λ w. ledger-laws g.T.Item.holds w

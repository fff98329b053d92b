use Rattle.sdd_world_model.proofs.Out.{out-laws}
use Rattle.sdd_world.proofs.world.World.counts_what_is_out.Goals as goal

pub returns : goal.returns
returns g c = out-laws g.T.Item.holds

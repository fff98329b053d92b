use Rattle.sdd_world_model.proofs.Collecting.{collected-ends}
use Rattle.sdd_world.proofs.world.World.ends_with_collectors.Goals as goal

pub returns : goal.returns
returns g c = collected-ends g.T.Item.holds c.args.self.now c.is_whole.ensures

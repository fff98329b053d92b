use Rattle.sdd_world_model.proofs.AcceleratedReclaim.{four-guards}
use Rattle.sdd_world.proofs.world.World.four_guards_reclaim.Goals as goal

pub returns : goal.returns
returns g c = four-guards g.T.Item.holds c.args.self.now c.is_whole.ensures

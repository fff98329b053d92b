use Rattle.sdd_world_model.proofs.AcceleratedGuards.{guards-pass}
use Rattle.sdd_world.proofs.world.World.accelerated_guards_pass.Goals as goal

pub returns : goal.returns
returns g c = guards-pass g.T.Item.holds c.args.self.now

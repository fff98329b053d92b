use Rattle.sdd_world_model.proofs.Adoption.{adopts-what-is-left}
use Rattle.sdd_world.proofs.world.World.adopts_what_is_left.Goals as goal

pub returns : goal.returns
returns g c = adopts-what-is-left c.args.self.now c.is_whole.ensures

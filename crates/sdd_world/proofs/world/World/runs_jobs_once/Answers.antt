use Rattle.sdd_world_model.proofs.Jobs.{runs-once}
use Rattle.sdd_world.proofs.world.World.runs_jobs_once.Goals as goal

pub returns : goal.returns
returns g c = runs-once g.T.Item.holds c.args.self.now c.is_whole.ensures.jobs_once

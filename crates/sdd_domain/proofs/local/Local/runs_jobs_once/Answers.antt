use Rattle.sdd_world_model.proofs.Jobs.{runs-once}
use Rattle.sdd_domain_steps.specs.Local.{world_of}
use Rattle.sdd_domain.proofs.local.Local.runs_jobs_once.Goals as goal

pub returns : goal.returns
returns g c = λ one. runs-once g.T.Item.holds (world_of c.args.self.now) (c.is_whole.ensures.whole one).jobs_once

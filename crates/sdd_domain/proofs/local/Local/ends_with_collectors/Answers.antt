use Rattle.sdd_world_model.proofs.Collecting.{collected-ends}
use Rattle.sdd_domain_steps.specs.Local.{world_of}
use Rattle.sdd_domain.proofs.local.Local.ends_with_collectors.Goals as goal

pub returns : goal.returns
returns g c = λ one. collected-ends g.T.Item.holds (world_of c.args.self.now) (c.is_whole.ensures.whole one)

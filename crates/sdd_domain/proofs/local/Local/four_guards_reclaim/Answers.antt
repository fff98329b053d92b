use Rattle.sdd_world_model.proofs.AcceleratedReclaim.{four-guards}
use Rattle.sdd_domain_steps.specs.Local.{world_of}
use Rattle.sdd_domain.proofs.local.Local.four_guards_reclaim.Goals as goal

pub returns : goal.returns
returns g c = λ one. four-guards g.T.Item.holds (world_of c.args.self.now) (c.is_whole.ensures.whole one)

use Rattle.sdd_world_model.proofs.AcceleratedGuards.{guards-pass}
use Rattle.sdd_domain_steps.specs.Local.{world_of}
use Rattle.sdd_domain.proofs.local.Local.accelerated_guards_pass.Goals as goal

pub returns : goal.returns
returns g c = guards-pass g.T.Item.holds (world_of c.args.self.now)

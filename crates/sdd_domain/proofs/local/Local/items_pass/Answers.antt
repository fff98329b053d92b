use Rattle.sdd_world_model.proofs.AcceleratedGuards.{items-pass}
use Rattle.sdd_domain.proofs.local.Local.items_pass.Goals as goal

pub returns : goal.returns
returns g c = items-pass _

use Rattle.sdd_world_model.proofs.Out.{out-laws}
use Rattle.sdd_domain.proofs.local.Local.counts_what_is_out.Goals as goal

pub returns : goal.returns
returns g c = λ w. out-laws g.T.Item.holds w

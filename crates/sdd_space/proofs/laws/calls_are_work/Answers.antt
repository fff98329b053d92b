use Rattle.sdd_world_model.proofs.WorkingGuards.{work-laws}
use Rattle.sdd_space.proofs.laws.calls_are_work.Goals as goal

pub returns : goal.returns
returns g c = work-laws g.T.Item.holds

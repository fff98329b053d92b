use Rattle.sdd_core.proofs.Epochs.{epoch_later-64}
use Rattle.sdd_core.proofs.epoch.Epoch.next.Goals as goal

pub returns-clause-round : goal.returns-clause-round
returns-clause-round c = rw (← c.self.view_is) (epoch_later-64 _ c.self.invariant)

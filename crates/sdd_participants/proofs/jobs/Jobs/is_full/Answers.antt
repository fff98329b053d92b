use Rattle.std.proofs.Common.{sym}
use Rattle.sdd_participants.proofs.JobsAtPlaces.{full-by}
use Rattle.sdd_participants.proofs.jobs.Jobs.is_full.Goals as goal

pub returns : goal.returns
returns g c = rw (← c.self.view_is) (
  λ full. full-by c.self.inside.jobs.items c.self.inside.numbers c.self.invariant.filled (c.is_full.ensures.0 full),
  λ full. c.is_full.ensures.1 (full-by c.self.inside.numbers c.self.inside.jobs.items (sym c.self.invariant.filled) full),
)

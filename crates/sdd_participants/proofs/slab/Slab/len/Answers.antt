use Rattle.std.proofs.Common.{arith}
use Rattle.sdd_participants.proofs.ShownEntries.{length-but}
use Rattle.sdd_participants.proofs.slab.Slab.len.Goals as goal

pub returns : goal.returns
returns g c = rw (← c.self.view_is) (omega (arith, length-but c.self.inside.entries.items c.self.inside.empty.items))

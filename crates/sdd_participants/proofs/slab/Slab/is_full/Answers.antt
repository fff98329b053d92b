use Rattle.std.proofs.Common.{arith, vec_len}
use Rattle.sdd_participants.proofs.EmptyPlaces.{full-by-length}
use Rattle.sdd_participants.proofs.slab.Slab.is_full.Goals as goal

pub returns : goal.returns
returns g c =
    rw (← c.self.view_is, c.is_empty.ensures)
    (full-by-length _ c.self.inside.empty.items _ (vec_len c.self.inside.empty) c.self.invariant (omega arith))

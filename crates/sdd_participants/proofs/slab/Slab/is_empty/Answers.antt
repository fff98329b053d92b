use Rattle.std.proofs.Common.{arith, ap, sym, length, ◌∙◌}
use Rattle.sdd_participants.proofs.EmptyPlaces.{empty-by-lengths}
use Rattle.sdd_participants.proofs.slab.Slab.is_empty.Goals as goal

pub returns : goal.returns
returns g c =
    rw (← c.self.view_is)
    (empty-by-lengths _ c.self.inside.empty.items _ c.len.result c.len-2.result c.self.invariant (omega arith)
    (c.len-2.ensures ∙ ap length (sym c.self.view_is)))

use Rattle.std.proofs.Common.{arith, refl}
use Rattle.sdd_participants.specs.Slab.{IsEmptyAt, IsFull, but_empty}
use Rattle.sdd_participants.proofs.EmptyPlaces.{full-from-count, listed-claimed, listed-last, listed-still}
use Rattle.sdd_participants.proofs.ShownEntries.{but-claimed, but-still, length-but}
use Rattle.sdd_participants.proofs.slab.Slab.claim.Goals as goal

pub index_mut-requires : goal.index_mut-requires
index_mut-requires g c =
    let last : IsEmptyAt (but_empty c.self.inside.entries.items c.self.inside.empty.items) c.in-Some.place =
    listed-last _ _ _ _ _ c.self.invariant c.in-Some.ensures.items in
    omega (arith, last.0, length-but c.self.inside.entries.items c.self.inside.empty.items)

pub invariant_of-self : goal.invariant_of-self
invariant_of-self g c =
    rw (but-still _ _ _ c.in_default.ensures.items)
    (listed-still _ _ _ _ _ c.self.invariant c.in_default.ensures.items c.pop.ensures.capacity)

pub returns-in_default : goal.returns-in_default
returns-in_default g c =
    let full : IsFull (but_empty c.self.inside.entries.items c.self.inside.empty.items) =
    full-from-count (but_empty c.self.inside.entries.items c.self.inside.empty.items)
    (omega (arith, c.self.invariant.all, c.in_default.ensures.cases.0)) in
    rw (← c.self.view_is) record { claimed = (full, refl, but-still _ _ _ c.in_default.ensures.items) }

pub invariant_of-self-2 : goal.invariant_of-self-2
invariant_of-self-2 g c =
    rw (but-claimed _ _ _ _ _ c.args.entry c.self.invariant c.in-Some.ensures.items)
    (listed-claimed _ _ _ _ _ _ _ _ c.self.invariant c.in-Some.ensures.items refl c.pop.ensures.capacity)

pub returns : goal.returns
returns g c =
    rw (← c.self.view_is) record {
      claimed = (
        listed-last _ _ _ _ _ c.self.invariant c.in-Some.ensures.items,
        but-claimed _ _ _ _ _ c.args.entry c.self.invariant c.in-Some.ensures.items,
      );
    }

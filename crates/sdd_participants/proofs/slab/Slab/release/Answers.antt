use Rattle.std.proofs.Common.{IsSome, arith, refl}
use Rattle.sdd_participants.specs.Slab.{but_empty, entry_at}
use Rattle.sdd_participants.proofs.EmptyPlaces.{listed-released, room-left}
use Rattle.sdd_participants.proofs.ShownEntries.{but-more}
use Rattle.sdd_participants.proofs.slab.Slab.release.Goals as goal

pub push_reserved-requires : goal.push_reserved-requires
push_reserved-requires g c =
    let some : IsSome (entry_at (but_empty c.self.inside.entries.items c.self.inside.empty.items) c.args.place) = rw c.self.view_is c.requires in
    omega (arith, room-left _ _ _ _ c.self.invariant some)

pub invariant_of-self : goal.invariant_of-self
invariant_of-self g c =
    let some : IsSome (entry_at (but_empty c.self.inside.entries.items c.self.inside.empty.items) c.args.place) = rw c.self.view_is c.requires in
    rw (but-more _ _ _ _ c.push_reserved.ensures.items)
    (listed-released _ _ _ _ _ _ _ c.self.invariant some refl c.push_reserved.ensures.items c.push_reserved.ensures.capacity)

pub returns : goal.returns
returns g c = rw (← c.self.view_is) (but-more _ _ _ _ c.push_reserved.ensures.items)

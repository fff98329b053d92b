use Rattle.std.proofs.Common.{IsSome, None, arith, refl}
use Rattle.std.proofs.lemmas.List.{length-set}
use Rattle.sdd_participants.specs.Slab.{entry_at}
use Rattle.sdd_participants.proofs.EmptyPlaces.{listed-released, room-left}
use Rattle.sdd_participants.proofs.place_states.PlaceStates.free.Goals as goal

pub push_reserved-requires : goal.push_reserved-requires
push_reserved-requires c =
    let some : IsSome (entry_at c.self.inside.entries.items c.args.place) = rw (← c.self.view_is) at c.requires in
    omega (arith, room-left _ _ _ _ c.self.invariant.listed some)

pub invariant_of-self : goal.invariant_of-self
invariant_of-self c =
    let some : IsSome (entry_at c.self.inside.entries.items c.args.place) = rw (← c.self.view_is) at c.requires in
    let same = length-set c.self.inside.entries.items c.args.place None in
    record {
      listed = listed-released _ _ _ _ _ _ _ c.self.invariant.listed some refl c.push_reserved.ensures.items c.push_reserved.ensures.capacity;
      within = omega (arith, same, c.self.invariant.within);
      kept = c.self.invariant.kept;
      vacant_kept = omega (arith, c.self.invariant.vacant_kept, c.push_reserved.ensures.capacity);
    }

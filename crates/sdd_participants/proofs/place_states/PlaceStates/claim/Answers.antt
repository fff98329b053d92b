use Rattle.std.proofs.Common.{arith, refl, Some}
use Rattle.std.proofs.lemmas.List.{length-set}
use Rattle.sdd_participants.proofs.EmptyPlaces.{listed-claimed}
use Rattle.sdd_participants.specs.declared.place_states.PlaceState.TheVariants.{Live}
use Rattle.sdd_participants.proofs.place_states.PlaceStates.claim.Goals as goal

pub invariant_of-self-2 : goal.invariant_of-self-2
invariant_of-self-2 c =
    let same = length-set c.self.inside.entries.items c.in_ok-place.place (Some Live) in
    record {
      listed = listed-claimed _ _ _ _ _ _ _ _ c.self.invariant.listed c.in_ok-place.ensures.items refl c.pop.ensures.capacity;
      within = omega (arith, same, c.self.invariant.within);
      kept = c.self.invariant.kept;
      vacant_kept = omega (arith, c.self.invariant.vacant_kept, c.pop.ensures.capacity);
    }

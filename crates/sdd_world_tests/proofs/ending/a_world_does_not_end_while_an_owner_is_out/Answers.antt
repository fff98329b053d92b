use Rattle.std.proofs.Common.{ℕ, false, List, Bool, subst, sym, arith}
use Rattle.std.specs.Prelude.{IsTrue, slice_index_or}
use Rattle.sdd_world_model.specs.World.{World, IsPlaceOf}
use Rattle.sdd_world.specs.Place.{index_of}
use Rattle.sdd_world_tests.specs.Stays.{Stays}
use Rattle.sdd_world_tests.proofs.ending.a_world_does_not_end_while_an_owner_is_out.Goals as goal

still : {T : Type 0} (old new : World T) (p : ℕ) → Stays old new → IsPlaceOf old p → IsPlaceOf new p
still old new p s live = (omega (arith, s.places, live.0), subst (λ (bs : List Bool). IsTrue (slice_index_or bs p false)) (sym s.live) live.1)

-- a refused close leaves who takes part
pub retire-requires-in-Err-clause-place : goal.retire-requires-in-Err-clause-place
retire-requires-in-Err-clause-place g c =
    let p : ℕ = index_of c.joined-place.result in
    let first = still _ _ p c.made-first.ensures.stays c.joined-place.ensures.place in
    let second = still _ _ p c.made-second.ensures.stays first in
    let before = still _ _ p c.retire.ensures.stays second in
    (c.in-Err.ensures.places p).0 before

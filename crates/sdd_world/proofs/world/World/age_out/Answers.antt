use Rattle.std.proofs.Common.{◌<◌, ◌≢◌, [], length, arith}
use Rattle.sdd_participants.specs.EpochState.{pace_of}
use Rattle.sdd_world_model.specs.World.{AnyGuardOpen, place_at}
use Rattle.sdd_world_model.specs.WorldChanges.{changed}
use Rattle.sdd_world_model.proofs.PlacesMatchStates.{Whole-changed, Whole-paced, IsTaken, items, taken-changed}
use Rattle.sdd_world_model.proofs.WaitingCounts.{KeepsSizes-trans}
use Rattle.sdd_world_model.proofs.WorldInvariant.{abreast-paced}
use Rattle.sdd_world.specs.Closing.{aged_out}
use Rattle.sdd_world.proofs.Closing.{MovesWaiting-aged_out, MovesWaiting-guards}
use Rattle.sdd_world_core.proofs.Lending.{readers-keep}
use Rattle.sdd_world_core.proofs.NoGuards.{home-quiet, lent-quiet}
use Rattle.sdd_world.proofs.world.World.age_out.Goals as goal

pub change-requires-clause-home : goal.change-requires-clause-home
change-requires-clause-home g c =
    let quiet : AnyGuardOpen c.self.inside.core.world → ⊥ = rw (← c.self.view_is) at c.requires.quiet in
    λ k due. home-quiet c.self.inside.core.world c.self.inside.core.lending c.self.invariant.3 quiet k

pub invariant_of-self : goal.invariant_of-self
invariant_of-self g c =
    let holds = g.T.Item.holds in
    let w = c.self.inside.core.world in
    let p = c.args.place in
    let l : p < length w.time.places = rw (← c.self.view_is) at c.requires.place in
    let waits : (place_at w p).bags.waiting ≢ [] = rw (← c.self.view_is) at c.requires.waits in
    let quiet : AnyGuardOpen w → ⊥ = rw (← c.self.view_is) at c.requires.quiet in
    let whole = c.self.invariant.2 in
    let taken : IsTaken w.time p = record { there = l; taken = λ none. waits (whole.housed.bare p none) } in
    let still = taken-changed holds w p taken in
    let sizes = rw (c.set_pace.ensures.paced, c.pace-pace.ensures, c.time.ensures, ← c.self.view_is, c.change.ensures.changed)
    at (KeepsSizes-trans c.change.ensures.sizes c.set_pace.ensures.sizes) in (
      c.change.ensures.empty,
      omega (arith, c.change.ensures.reserved, c.set_pace.ensures.sizes.slots, c.set_pace.ensures.sizes.jobs),
      rw (c.set_pace.ensures.paced, c.pace-pace.ensures, c.time.ensures, ← c.self.view_is, c.change.ensures.changed)
          (Whole-paced (changed holds w p) p (pace_of (place_at w p)) still (abreast-paced holds w p l (items whole)) (Whole-changed holds w p taken whole)),
      rw (c.set_pace.ensures.paced, c.pace-pace.ensures, c.time.ensures, ← c.self.view_is, c.change.ensures.changed)
          (lent-quiet w (aged_out holds w p) c.self.inside.core.lending (readers-keep w (aged_out holds w p) sizes c.self.invariant.3.readers)
          (MovesWaiting-guards l (MovesWaiting-aged_out holds w p l)) quiet c.self.invariant.3),
    )

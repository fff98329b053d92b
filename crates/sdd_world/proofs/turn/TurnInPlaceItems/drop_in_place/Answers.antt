use Rattle.std.proofs.Common.{ℕ, ap, ◌∙◌, arith}
use Rattle.std.specs.Prelude.{is_some}
use Rattle.sdd_participants.specs.EpochState.{EpochState}
use Rattle.sdd_rights.specs.Right.{number_of}
use Rattle.sdd_world_model.proofs.PlacesMatchStates.{live-is}
use Rattle.sdd_world_model.proofs.InPlace.{dropped-others}
use Rattle.sdd_world_model.proofs.ParticipantChanges.{gives-grows, Gives-dropped}
use Rattle.sdd_world.proofs.turn.TurnInPlaceItems.drop_in_place.Goals as goal

pub invariant_of-world : goal.invariant_of-world
invariant_of-world g c =
    let i = c.world.invariant in
    let seated = rw (← c.world.view_is) at c.requires.seated in
    let some = ap is_some (live-is c.world.inside.core.world.time c.args.self.now.place seated) in
    (i.0, omega (arith, i.1, c.release.ensures.sizes.slots, c.release.ensures.sizes.jobs), c.release.ensures.whole some i.2, c.release.ensures.lent i.3)

pub invariant_of-world-in-None : goal.invariant_of-world-in-None
invariant_of-world-in-None g c =
    let i = c.world.invariant in
    let seated = rw (← c.world.view_is) at c.requires.seated in
    let some = ap is_some (live-is c.world.inside.core.world.time c.args.self.now.place seated) in
    let e = c.drop_in_place.ensures in
    (i.0, omega (arith, i.1, e.sizes.slots, e.sizes.jobs), e.whole some i.2, e.lent)

pub returns-in-None-clause-own : goal.returns-in-None-clause-own
returns-in-None-clause-own g c =
    let w = c.args.self.now.world.now in
    let p : ℕ = c.args.self.now.place in
    let slot : ℕ = number_of c.args.right in
    rw (c.drop_in_place.ensures.dropped, c.world.view_is) (gives-grows c.requires.seated.0 (Gives-dropped g.T.Item.holds w p slot c.requires.seated.0))

pub returns-in-None-clause-known : goal.returns-in-None-clause-known
returns-in-None-clause-known g c =
    let w = c.args.self.now.world.now in
    let p : ℕ = c.args.self.now.place in
    let slot : ℕ = number_of c.args.right in
    let count = ap (λ (t : EpochState). t.count) (Gives-dropped g.T.Item.holds w p slot c.requires.seated.0).time in
    rw (c.drop_in_place.ensures.dropped, c.world.view_is) (record { told = omega (arith, count); since = count })

pub returns-in-None-clause-others : goal.returns-in-None-clause-others
returns-in-None-clause-others g c k value apart h =
    let w = c.args.self.now.world.now in
    let p : ℕ = c.args.self.now.place in
    let slot : ℕ = number_of c.args.right in
    rw (c.drop_in_place.ensures.dropped, c.world.view_is) (dropped-others g.T.Item.holds w p slot k apart ∙ h)

use Rattle.std.proofs.Common.{ap, arith}
use Rattle.std.specs.Prelude.{is_some}
use Rattle.sdd_world_model.proofs.PlacesMatchStates.{live-is}
use Rattle.sdd_world.proofs.turn.TurnItems.release.Goals as goal

pub invariant_of-world : goal.invariant_of-world
invariant_of-world g c =
    let i = c.world.invariant in
    let seated = rw (← c.world.view_is) at c.requires.seated in
    let some = ap is_some (live-is c.world.inside.core.world.time c.args.self.now.place seated) in
    (i.0, omega (arith, i.1, c.release.ensures.sizes.slots, c.release.ensures.sizes.jobs), c.release.ensures.whole some i.2, c.release.ensures.lent i.3)

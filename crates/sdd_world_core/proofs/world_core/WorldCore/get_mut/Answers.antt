use Rattle.std.proofs.Common.{ℕ}
use Rattle.sdd_rights.specs.Right.{number_of}
use Rattle.sdd_world_model.specs.OwnerOrCell.{SpaceId}
use Rattle.sdd_world_model.proofs.PlacesMatchStates.{Whole-with_value}
use Rattle.sdd_world_model.proofs.Standings.{alone-out}
use Rattle.sdd_world_core.proofs.NoGuards.{home-quiet}
use Rattle.sdd_world_core.proofs.InPlace.{lent-edited, sound-edited, value-of_home}
use Rattle.sdd_participants.specs.Jobs.{places_of}
use Rattle.sdd_world_core.proofs.world_core.WorldCore.get_mut.Goals as goal

pub get_mut-requires-clause-home : goal.get_mut-requires-clause-home
get_mut-requires-clause-home g c =
    let may = rw (← c.self.view_is) at c.requires.may in
    home-quiet _ _ (rw (← c.self.view_is) at c.requires.lent) may.quiet (number_of c.args.right.now)

pub invariant_of-self : goal.invariant_of-self
invariant_of-self g c =
    let slot : ℕ = number_of c.args.right.now in
    let slots = c.self.inside.slots in
    let e = c.get_mut.ensures in
    let held = (rw (← c.self.view_is) at c.requires.held) e.0 e.1 c.get_mut.result e.3 in
    let home : SpaceId = record { slots = slots.home; cells = c.self.inside.cells.home; readers = c.self.inside.sections.home } in
    let was = value-of_home g.T.Item.holds home slots.values slot e.0 c.self.invariant.homes e.2 in
    let i = c.self.inside in
    rw e.4 (sound-edited g.T.Item.holds i.time slots i.cells (places_of i.jobs) i.sections slot e.1 c.self.invariant (held was))

pub returns-clause-whole : goal.returns-clause-whole
returns-clause-whole g c =
    let slot : ℕ = number_of c.args.right.now in
    let may = rw (← c.self.view_is) at c.requires.may in
    let e = c.get_mut.ensures in
    rw (← c.self.view_is, e.4) (λ i. Whole-with_value _ slot e.1 (alone-out _ may.alone) i)

pub returns-clause-lent : goal.returns-clause-lent
returns-clause-lent g c =
    let slot : ℕ = number_of c.args.right.now in
    let may = rw (← c.self.view_is) at c.requires.may in
    let e = c.get_mut.ensures in
    rw e.4 (lent-edited g.T.Item.holds _ _ slot e.1 may (rw (← c.self.view_is) at c.requires.lent))

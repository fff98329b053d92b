use Rattle.std.proofs.Common.{ap, ℕ, Some, None}
use Rattle.std.specs.Prelude.{is_some}
use Rattle.std.proofs.lemmas.List.{get_or-set_same}
use Rattle.sdd_rights.specs.Right.{number_of}
use Rattle.sdd_world_slots.proofs.SlotsKept.{inside-some}
use Rattle.sdd_world.proofs.turn.TurnInPlaceItems.get_mut.Goals as goal

pub get_mut-requires-clause-held : goal.get_mut-requires-clause-held
get_mut-requires-clause-held g c was now r h = rw c.world.view_is (c.requires.held was now r h)

-- the slot has the value that the edit left
pub returns-clause-shown : goal.returns-clause-shown
returns-clause-shown g c =
    let n : ℕ = number_of c.args.right.now in
    let values = c.world.inside.core.world.values in
    let changed = c.get_mut.ensures.changed in
    let set = get_or-set_same values n (Some changed.1) None (inside-some values n (ap is_some changed.2)) in (
      changed.0,
      changed.1,
      rw (← c.world.view_is) changed.2,
      changed.3,
      rw changed.4 set,
    )

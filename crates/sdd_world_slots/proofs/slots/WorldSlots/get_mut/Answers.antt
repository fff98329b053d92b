use Rattle.std.proofs.Common.{ap, ◌∙◌}
use Rattle.std.specs.Prelude.{is_some}
use Rattle.sdd_world_slots.proofs.SlotsKept.{filled-there, keeps-other}
use Rattle.sdd_world_slots.proofs.slots.WorldSlots.get_mut.Goals as goal

pub edit-requires-clause-filled : goal.edit-requires-clause-filled
edit-requires-clause-filled g c = filled-there c.slot_of-slot.result c.self.invariant ∙ (rw (← c.self.view_is) at c.slot_of-slot.ensures.taken)

pub invariant_of-self : goal.invariant_of-self
invariant_of-self g c =
    let slot = c.slot_of-slot.result in
    rw (c.edit.ensures.4) (keeps-other slot c.edit.ensures.1 (ap is_some c.edit.ensures.2) c.self.invariant)

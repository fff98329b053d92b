use Rattle.std.proofs.Common.{◌∙◌}
use Rattle.sdd_world_slots.proofs.SlotsKept.{filled-there}
use Rattle.sdd_world_slots.proofs.slots.WorldSlots.value.Goals as goal

pub value-requires-clause-filled : goal.value-requires-clause-filled
value-requires-clause-filled g c = filled-there c.slot_of.result c.self.invariant ∙ (rw (← c.self.view_is) at c.slot_of.ensures.taken)

use Rattle.std.proofs.Common.{◌∙◌}
use Rattle.sdd_world_slots.proofs.SlotsKept.{filled-there}
use Rattle.sdd_world_slots.proofs.slots.WorldSlots.look.Goals as goal

pub look-requires-clause-filled : goal.look-requires-clause-filled
look-requires-clause-filled g c = filled-there c.args.slot c.self.invariant ∙ (rw (← c.self.view_is) at c.requires.taken)

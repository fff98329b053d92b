use Rattle.std.proofs.Common.{◌∙◌}
use Rattle.sdd_world_slots.proofs.SlotsKept.{filled-there, none-of, none-at}
use Rattle.sdd_world_slots.proofs.slots.WorldSlots.destroy.Goals as goal

pub destroy-requires : goal.destroy-requires
destroy-requires g c at = none-of _ (filled-there at c.self.invariant ∙ none-at c.self.inside.standings (rw (← c.self.view_is) at c.requires) at)

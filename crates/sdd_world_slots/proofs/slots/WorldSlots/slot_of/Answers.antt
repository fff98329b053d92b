use Rattle.sdd_world_slots.proofs.SlotsKept.{owned-there, taken-there}
use Rattle.sdd_world_slots.proofs.slots.WorldSlots.slot_of.Goals as goal

pub returns-clause-owned : goal.returns-clause-owned
returns-clause-owned g c = rw (← c.self.view_is) (owned-there c.number.result _ c.self.invariant (rw c.number.ensures c.agrees.ensures.kind))

pub returns-clause-taken : goal.returns-clause-taken
returns-clause-taken g c =
    rw (← c.self.view_is) (taken-there c.number.result _ c.self.invariant (rw c.number.ensures c.agrees.ensures.kind) c.agrees.ensures.owner)

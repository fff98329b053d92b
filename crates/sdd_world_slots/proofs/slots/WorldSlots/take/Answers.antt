use Rattle.std.proofs.Common.{◌∙◌, sym, refl, None}
use Rattle.std.proofs.lemmas.List.{set-set}
use Rattle.sdd_world_slots.proofs.SlotsKept.{filled-there, keeps}
use Rattle.sdd_world_slots.proofs.slots.WorldSlots.take.Goals as goal

pub take-requires-clause-filled : goal.take-requires-clause-filled
take-requires-clause-filled g c = filled-there c.slot_of-slot.result c.self.invariant ∙ (rw (← c.self.view_is) at c.slot_of-slot.ensures.taken)

pub invariant_of-self : goal.invariant_of-self
invariant_of-self g c =
    let slot = c.slot_of-slot.result in
    let here = c.redeem.ensures.number ∙ sym c.slot_of-slot.ensures.slot in
    rw (
      c.set.ensures.home,
      c.set.ensures.kept,
      c.redeem.ensures.home,
      c.redeem.ensures.kept,
      c.release.ensures,
      c.take.ensures.taken,
      here,
      set-set c.self.inside.rights.kept slot _ _,
    )
    (keeps slot None None refl (λ n e. absurd (cc)) c.self.invariant)

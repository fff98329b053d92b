use Rattle.std.proofs.Common.{◌∙◌, sym, Some}
use Rattle.std.proofs.lemmas.List.{set-set}
use Rattle.sdd_participants.specs.declared.standing.Standing.TheVariants.{Raw}
use Rattle.sdd_world_slots.proofs.SlotsKept.{keeps-value}
use Rattle.sdd_world_slots.proofs.slots.WorldSlots.into_raw.Goals as goal

pub invariant_of-self : goal.invariant_of-self
invariant_of-self g c =
    let slot = c.slot_of-slot.result in
    let here = c.redeem.ensures.number ∙ sym c.slot_of-slot.ensures.slot in
    rw (
      c.set.ensures.home,
      c.set.ensures.kept,
      c.redeem.ensures.home,
      c.redeem.ensures.kept,
      c.replace.ensures,
      here,
      set-set c.self.inside.rights.kept slot _ _,
    )
    (keeps-value slot (Some Raw) (sym (rw (← c.self.view_is) at c.slot_of-slot.ensures.taken)) (λ n e. absurd (cc)) c.self.invariant)

use Rattle.std.proofs.Common.{◌≡◌, ◌∙◌, sym, Some}
use Rattle.std.proofs.lemmas.List.{set-set}
use Rattle.sdd_rights.specs.RightsAuthority.{whole}
use Rattle.sdd_rights.specs.declared.right.StandingKind.TheVariants.{Retired as KindRetired}
use Rattle.sdd_world_slots.proofs.SlotsKept.{keeps-so, waiting-bounded, waiting-kept}
use Rattle.sdd_world_slots.proofs.slots.WorldSlots.retire.Goals as goal

pub invariant_of-self : goal.invariant_of-self
invariant_of-self g c =
    let slot = c.slot_of-slot.result in
    let here : c.redeem.result ≡ slot = c.redeem.ensures.number ∙ sym c.slot_of-slot.ensures.slot in
    rw (
      c.set.ensures.home,
      c.set.ensures.kept,
      c.redeem.ensures.home,
      c.redeem.ensures.kept,
      c.replace.ensures,
      here,
      set-set c.self.inside.rights.kept slot _ _,
    )
    (keeps-so slot (Some c.args.last) (whole KindRetired) (waiting-kept c.args.last c.requires.waits)
    (sym (rw (← c.self.view_is) at c.slot_of-slot.ensures.taken)) (waiting-bounded c.args.last c.requires.waits) c.self.invariant)

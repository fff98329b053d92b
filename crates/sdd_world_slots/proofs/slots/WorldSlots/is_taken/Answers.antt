use Rattle.std.proofs.Common.{sym, ◌∙◌, ap, refl}
use Rattle.std.specs.Prelude.{is_some}
use Rattle.sdd_world_slots.proofs.SlotsKept.{filled-there}
use Rattle.sdd_world_slots.proofs.slots.WorldSlots.is_taken.Goals as goal

pub returns-in-Some : goal.returns-in-Some
returns-in-Some g c =
    let taken = sym (filled-there c.args.slot c.self.invariant) ∙ ap is_some (sym c.in-Some.ensures) in
    rw (← c.self.view_is) (λ _. taken, λ h. refl)

pub returns-in-None : goal.returns-in-None
returns-in-None g c =
    let free = sym (filled-there c.args.slot c.self.invariant) ∙ ap is_some (sym c.in-None.ensures) in
    rw (← c.self.view_is) (λ never. absurd (cc), λ taken. absurd (cc))

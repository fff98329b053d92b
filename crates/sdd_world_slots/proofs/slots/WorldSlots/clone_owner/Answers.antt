use Rattle.std.proofs.Common.{◌≡◌, ◌+◌, ◌-◌, ap, sym, ◌∙◌, arith, slice_index_or, None, Some}
use Rattle.std.specs.Prelude.{is_some}
use Rattle.sdd_participants.specs.declared.standing.Standing.TheVariants.{Shared}
use Rattle.sdd_rights.specs.RightsAuthority.{Kept}
use Rattle.sdd_world_slots.proofs.SlotsKept.{keeps-so, kept-there, more-kept, shared-bounded}
use Rattle.sdd_world_slots.proofs.slots.WorldSlots.clone_owner.Goals as goal

pub invariant_of-self : goal.invariant_of-self
invariant_of-self g c =
    let owners = c.args.owners in
    let is : slice_index_or c.self.inside.standings c.args.slot None ≡ Some (Shared owners) = (rw (← c.self.view_is) at c.requires.shared).shared in
    rw (c.grant_another.ensures.home, c.grant_another.ensures.kept, c.replace.ensures)
    (keeps-so c.args.slot (Some (Shared (owners + 1))) _
    (more-kept _ owners 1 is (omega (arith, c.requires.fewer))
    ∙ ap (λ (x : Kept). record x { units = x.units - 1 }) (sym (kept-there c.args.slot c.self.invariant)))
    (sym (ap is_some is)) (shared-bounded (owners + 1) (omega arith) (omega (arith, c.requires.fewer))) c.self.invariant)

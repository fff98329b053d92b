use Rattle.std.proofs.Common.{◌≡◌, ◌+◌, ◌-◌, ap, sym, ◌∙◌, arith, slice_index_or, None, Some}
use Rattle.std.specs.Prelude.{is_some}
use Rattle.sdd_participants.specs.declared.standing.Standing.TheVariants.{Shared}
use Rattle.sdd_rights.specs.RightsAuthority.{Kept}
use Rattle.sdd_world_slots.proofs.SlotsKept.{keeps-so, kept-there, more-kept, shared-bounded}
use Rattle.sdd_world_slots.proofs.slots.WorldSlots.add_owners.Goals as goal

pub invariant_of-self : goal.invariant_of-self
invariant_of-self g c =
    let owners = c.args.owners in
    let more = c.args.more in
    let is : slice_index_or c.self.inside.standings c.args.slot None ≡ Some (Shared owners) = (rw (← c.self.view_is) at c.requires.shared).shared in
    rw (c.grant_several.ensures.home, c.grant_several.ensures.kept, c.replace.ensures)
    (keeps-so c.args.slot (Some (Shared (owners + more))) _
    (more-kept _ owners more is c.requires.fits ∙ ap (λ (x : Kept). record x { units = x.units - more }) (sym (kept-there c.args.slot c.self.invariant)))
    (sym (ap is_some is)) (shared-bounded (owners + more) (omega (arith, c.requires.some)) c.requires.fits) c.self.invariant)

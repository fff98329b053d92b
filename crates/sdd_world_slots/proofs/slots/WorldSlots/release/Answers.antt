use Rattle.std.proofs.Common.{◌≡◌, ◌+◌, ◌-◌, ◌<◌, ◌≤◌, ◌^◌, ℕ, ap, sym, ◌∙◌, arith, slice_index_or, None, Some}
use Rattle.std.specs.Prelude.{is_some}
use Rattle.sdd_participants.specs.declared.standing.Standing.TheVariants.{Shared}
use Rattle.sdd_rights.specs.StandingKind.{right_units}
use Rattle.sdd_rights.specs.Right.{kind_of}
use Rattle.sdd_rights.specs.RightsAuthority.{Kept, whole}
use Rattle.sdd_rights.specs.declared.right.StandingKind.TheVariants.{Free}
use Rattle.sdd_world_slots.proofs.SlotsKept.{owners-or-one, others-more, keeps-so, kept-there, fewer-kept, more-owners, shared-bounded}
use Rattle.sdd_world_slots.proofs.slots.WorldSlots.release.Goals as goal

pub invariant_of-self : goal.invariant_of-self
invariant_of-self g c =
    let slot = c.slot_of-slot.result in
    let owners = c.owners_beside-owners.result in
    let s = slice_index_or c.self.inside.standings slot None in
    let here : c.redeem.result ≡ slot = c.redeem.ensures.number ∙ sym c.slot_of-slot.ensures.slot in
    let same : owners ≡ owners-or-one s = rw (← c.self.view_is, ← c.slot_of-slot.ensures.slot) at c.owners_beside-owners.ensures in
    let several : 1 < owners-or-one s = others-more s (rw (← c.self.view_is, ← c.slot_of-slot.ensures.slot) at c.requires.others) in
    let more : 1 < owners = omega (arith, same, several) in
    let is : s ≡ Some (Shared owners) = more-owners s several ∙ ap (λ (n : ℕ). Some (Shared n)) (sym same) in
    let there = kept-there slot c.self.invariant in
    let most : owners ≤ 2 ^ 62 = (c.self.invariant.bounded slot owners is).most in
    let kind = sym (ap (λ (x : Kept). x.kind) there) ∙ ap (λ (k : ℕ). (slice_index_or c.self.inside.rights.kept k (whole Free)).kind) (sym here) ∙
    c.redeem.ensures.kind in
    rw (c.redeem.ensures.home, c.redeem.ensures.kept, c.replace.ensures, here)
    (keeps-so slot (Some (Shared (owners - 1))) _
    (fewer-kept s _ owners is more most kind ∙ ap (λ (x : Kept). record x { units = x.units + right_units (kind_of c.args.right) }) (sym there))
    (sym (ap is_some is)) (shared-bounded (owners - 1) (omega (arith, more)) (omega (arith, most))) c.self.invariant)

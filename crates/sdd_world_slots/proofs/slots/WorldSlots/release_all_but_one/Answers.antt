use Rattle.std.proofs.Common.{◌≡◌, ◌+◌, ◌-◌, ◌<◌, ◌≤◌, ◌^◌, ℕ, List, length, ap, sym, ◌∙◌, arith, refl, slice_index_or, None, Some}
use Rattle.std.specs.Prelude.{is_some}
use Rattle.std.proofs.lemmas.List.{set-set, get_or-set_same, length-map}
use Rattle.sdd_participants.specs.declared.standing.Standing.{Standing}
use Rattle.sdd_participants.specs.declared.standing.Standing.TheVariants.{Shared}
use Rattle.sdd_rights.specs.RightsAuthority.{Kept, whole}
use Rattle.sdd_rights.specs.declared.right.StandingKind.TheVariants.{Free}
use Rattle.sdd_rights.specs.SharedRights.{count_of}
use Rattle.sdd_world_model.specs.Slots.{kept_of}
use Rattle.sdd_world_slots.proofs.SlotsKept.{keeps-so, kept-there, but-one-kept, no-more-than, shared-bounded}
use Rattle.sdd_world_slots.proofs.slots.WorldSlots.release_all_but_one.Goals as goal

pub invariant_of-self : goal.invariant_of-self
invariant_of-self g c =
    let slot = c.redeem_several-slot.result in
    let count : ℕ = count_of c.args.several in
    let owners = c.in-Shared.owners in
    let kept = c.self.inside.rights.kept in
    let s = slice_index_or c.self.inside.standings slot None in
    let is : s ≡ Some (Shared owners) = c.at.ensures ∙ ap (λ (x : Standing). Some x) c.in-Shared.is in
    let there = kept-there slot c.self.invariant in
    let most : owners ≤ 2 ^ 62 = (c.self.invariant.bounded slot owners is).most in
    let units = ap (λ (x : Kept). x.units) there in
    let few : count ≤ owners = no-more-than s owners count is most (omega (arith, units, c.redeem_several-slot.ensures.fits)) in
    let some = c.redeem_several-slot.ensures.some.1 in
    let rowed = ap (λ (ks : List Kept). length ks) c.self.invariant.told ∙ length-map c.self.inside.standings kept_of ∙ c.self.invariant.sized in
    let inside : slot < length kept = omega (arith, rowed, c.redeem_several-slot.ensures.inside) in
    let joined : Kept = record (slice_index_or kept slot (whole Free)) { units = (slice_index_or kept slot (whole Free)).units + count } in
    let left : Kept = record joined { units = joined.units - 1 } in
    rw (
      c.grant_another.ensures.home,
      c.grant_another.ensures.kept,
      c.redeem_several-slot.ensures.home,
      c.redeem_several-slot.ensures.kept,
      c.replace.ensures,
      c.count-count.ensures,
      get_or-set_same kept slot joined (whole Free) inside,
      set-set kept slot joined left,
    )
    (keeps-so slot (Some (Shared (owners - count + 1))) _
    (but-one-kept s owners count is most some few ∙ ap (λ (x : Kept). record x { units = x.units + count - 1 }) (sym there))
    (sym (ap is_some is)) (shared-bounded (owners - count + 1) (omega arith) (omega (arith, most, some, few))) c.self.invariant)

pub returns-clause-gone : goal.returns-clause-gone
returns-clause-gone g c =
    let slot = c.redeem_several-slot.result in
    let count : ℕ = count_of c.args.several in
    let owners = c.in-Shared.owners in
    let s = slice_index_or c.self.inside.standings slot None in
    let is : s ≡ Some (Shared owners) = c.at.ensures ∙ ap (λ (x : Standing). Some x) c.in-Shared.is in
    let shared = c.self.invariant.bounded slot owners is in
    let units = ap (λ (x : Kept). x.units) (kept-there slot c.self.invariant) in
    let few : count ≤ owners = no-more-than s owners count is shared.most (omega (arith, units, c.redeem_several-slot.ensures.fits)) in
    let all : owners - count + count ≡ owners = omega (arith, few) in
    let there = rw (c.redeem_several-slot.ensures.number) at shared in (
      owners - count,
      rw (← c.self.view_is, all) there,
      rw (
        c.grant_another.ensures.home,
        c.redeem_several-slot.ensures.home,
        c.replace.ensures,
        c.count-count.ensures,
        ← c.self.view_is,
        c.redeem_several-slot.ensures.number,
      ) refl,
    )

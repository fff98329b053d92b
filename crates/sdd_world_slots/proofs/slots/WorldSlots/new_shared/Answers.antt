use Rattle.std.proofs.Common.{◌-◌, ◌<◌, ap, ◌∙◌, refl, arith, length, Some, List}
use Rattle.std.specs.Prelude.{is_some}
use Rattle.std.proofs.lemmas.List.{set-set, get_or-set_same, length-map}
use Rattle.sdd_participants.specs.declared.standing.Standing.TheVariants.{Shared}
use Rattle.sdd_rights.specs.RightsAuthority.{Kept, granted, whole}
use Rattle.sdd_rights.specs.declared.right.StandingKind.TheVariants.{Free, Shared as KindShared}
use Rattle.sdd_world_model.specs.Slots.{kept_of}
use Rattle.sdd_world_slots.proofs.SlotsKept.{filled-there, keeps, none-of, shared-bounded, several-kept}
use Rattle.sdd_world_slots.proofs.slots.WorldSlots.new_shared.Goals as goal

pub put-requires-clause-empty : goal.put-requires-clause-empty
put-requires-clause-empty g c = none-of _ (filled-there c.in-Ok.slot c.self.invariant ∙ ap is_some c.in-Ok.ensures.claimed.0.1)

pub invariant_of-self-2 : goal.invariant_of-self-2
invariant_of-self-2 g c =
    let slot = c.in-Ok.slot in
    let owners = c.args.owners in
    let kept = c.self.inside.rights.kept in
    let one : Kept = granted KindShared in
    let several : Kept = record one { units = one.units - (owners - 1) } in
    let rowed = ap (λ (ks : List Kept). length ks) c.self.invariant.told ∙ length-map c.self.inside.standings kept_of in
    let inside : slot < length kept = let near = c.in-Ok.ensures.claimed.0.0 in omega (arith, rowed, near) in
    rw (
      c.grant_several.ensures.home,
      c.grant_several.ensures.kept,
      c.grant-right.ensures.home,
      c.grant-right.ensures.kept,
      c.in-Ok.ensures.claimed.1,
      c.put.ensures,
      get_or-set_same kept slot one (whole Free) inside,
      set-set kept slot one several,
      ← several-kept owners c.requires.several c.requires.most,
    )
    (keeps slot (Some (Shared owners)) (Some c.args.value) refl
    (shared-bounded owners (let some = c.requires.several in omega (arith, some)) c.requires.most) c.self.invariant)

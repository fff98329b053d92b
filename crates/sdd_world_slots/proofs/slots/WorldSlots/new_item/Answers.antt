use Rattle.std.proofs.Common.{ap, ◌∙◌, refl, Some}
use Rattle.std.specs.Prelude.{is_some}
use Rattle.sdd_world_model.specs.Slots.{first_standing}
use Rattle.sdd_world_slots.proofs.SlotsKept.{filled-there, keeps, none-of, first-kept, first-bounded}
use Rattle.sdd_world_slots.proofs.slots.WorldSlots.new_item.Goals as goal

pub put-requires-clause-empty : goal.put-requires-clause-empty
put-requires-clause-empty g c = none-of _ (filled-there c.in-Ok.slot c.self.invariant ∙ ap is_some c.in-Ok.ensures.claimed.0.1)

pub invariant_of-self-2 : goal.invariant_of-self-2
invariant_of-self-2 g c = rw (
  c.grant.ensures.home,
  c.grant.ensures.kept,
  c.in-Ok.ensures.claimed.1,
  c.put.ensures,
  c.first_standing.ensures,
  ← first-kept c.args.kind c.requires.owner,
)
    (keeps c.in-Ok.slot (Some (first_standing c.args.kind)) (Some c.args.value) refl (first-bounded c.args.kind) c.self.invariant)

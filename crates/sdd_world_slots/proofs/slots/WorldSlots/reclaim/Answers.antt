use Rattle.std.proofs.Common.{slice_index_or, ◌∙◌, refl, None, IsSome}
use Rattle.sdd_world_slots.proofs.SlotsKept.{filled-there, keeps, some-waiting}
use Rattle.sdd_world_slots.proofs.slots.WorldSlots.reclaim.Goals as goal

pub take-value-requires-clause-filled : goal.take-value-requires-clause-filled
take-value-requires-clause-filled g c =
    let some : IsSome (slice_index_or c.self.inside.standings c.args.slot None) =
    some-waiting _ (rw (← c.self.view_is) at (c.is_waiting.ensures.0 c.if-not-is_waiting.false)) in
    filled-there c.args.slot c.self.invariant ∙ some

pub invariant_of-self : goal.invariant_of-self
invariant_of-self g c = rw (
  c.set.ensures.home,
  c.set.ensures.kept,
  c.release.ensures,
  c.take-value.ensures.taken,
) (keeps c.args.slot None None refl (λ n e. absurd (cc)) c.self.invariant)

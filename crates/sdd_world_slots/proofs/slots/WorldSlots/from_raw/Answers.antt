use Rattle.std.proofs.Common.{ap, Some}
use Rattle.std.specs.Prelude.{is_some}
use Rattle.sdd_participants.specs.declared.standing.Standing.TheVariants.{Owned}
use Rattle.sdd_world_slots.proofs.SlotsKept.{keeps-value}
use Rattle.sdd_world_slots.proofs.slots.WorldSlots.from_raw.Goals as goal

pub invariant_of-self : goal.invariant_of-self
invariant_of-self g c =
    rw (c.grant.ensures.home, c.grant.ensures.kept, c.replace.ensures)
    (keeps-value c.args.slot (Some Owned) (ap is_some (rw (← c.self.view_is) at c.in-Some-Raw.ensures)) (λ n e. absurd (cc)) c.self.invariant)

use Rattle.std.proofs.Common.{sym, ap, ◌∙◌}
use Rattle.sdd_rights.specs.declared.views.View.{View}
use Rattle.sdd_rights.specs.Views.{owner_of}
use Rattle.sdd_domain_invariant.specs.Fractions.FractionSteps.{SeatState, regained}
use Rattle.sdd_domain_invariant.proofs.Seats.{joins_owner}
use Rattle.sdd_atomics.proofs.ViewCodes.{view_is}
use Rattle.sdd_atomics.proofs.Sitting.{numbers, sits, stays}
use Rattle.sdd_atomics.proofs.steps.slots.take_in.Goals as goal

pub rejoin-requires : goal.rejoin-requires
rejoin-requires c = let k = sits _ _ _ c.seat.view_is c.seat.invariant in let n = numbers k in
    rw c.seat.view_is (let r = c.requires in let o = r.owner in (
      k.home,
      c.seat.inside.table.now.ledgered.0,
      c.seat.inside.table.now.ledgered.1,
      (o.0 ∙ k.home),
      (owner_of o.1.0 o.1.1 o.1.2, o.1.3, joins_owner _ _ _ _ _ _ o.1.0 o.1.1 o.1.2 r.rests),
    ))

pub returns : goal.returns
returns c =
    rw (← c.seat.view_is) (λ slot shared value views. let e = c.rejoin.ensures in let is = view_is e.2.0 (owner_of slot shared value) (sym e.2.1 ∙ views) in (
      e.0,
      e.1,
      ap (λ (m : SeatState). m.1) e.2.2,
      ap (λ (m : SeatState). m.0) e.2.2 ∙ ap (λ (w : View). regained c.seat.inside.seat.me.0 w) is,
    ))

pub invariant_of-seat : goal.invariant_of-seat
invariant_of-seat c = let e = c.rejoin.ensures in
    stays _ _ _ c.seat.invariant e.0 (ap (λ (m : SeatState). m.0.sizes) e.2.2, ap (λ (m : SeatState). m.0.fractions.gamma) e.2.2)

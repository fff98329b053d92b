use Rattle.std.proofs.Common.{rules, ap, sym, ◌∙◌, arith}
use Rattle.sdd_rights.specs.declared.views.Sizes.{Sizes}
use Rattle.sdd_domain_invariant.specs.Words.{slot_word}
use Rattle.sdd_atomics.proofs.CollectorsAllowed.{may_leave_to_close}
use Rattle.sdd_atomics.proofs.Sitting.{numbers, sits, stays}
use Rattle.sdd_atomics.proofs.steps.collectors.leave_to_close.Goals as goal

pub compare_exchange-requires : goal.compare_exchange-requires
compare_exchange-requires c = let k = sits _ _ _ c.seat.view_is c.seat.invariant in let n = numbers k in
    rw c.seat.view_is (let r = c.requires in (
      k.home,
      omega arith,
      may_leave_to_close _ _ _ _ _ k.sizes k.gamma r.ready.place _ c.args.slot c.slot_word.ensures (omega arith) r.ready.rests r.waits.0 r.waits.1,
    ))

pub returns : goal.returns
returns c =
    rw (← c.seat.view_is) (λ k waits. let e = c.compare_exchange.ensures in (
      e.0,
      e.1,
      e.2 c.args.slot k (c.slot_word.ensures ∙ ap (λ (z : Sizes). slot_word z c.args.slot) (sym c.seat.invariant.sizes)) waits,
    ))

pub invariant_of-seat : goal.invariant_of-seat
invariant_of-seat c = let k = c.requires.waits.0 in let e = c.compare_exchange.ensures in
    stays _ _ _ c.seat.invariant e.0 (let h = e.2 c.args.slot k (c.slot_word.ensures
    ∙ ap (λ (z : Sizes). slot_word z c.args.slot) (sym c.seat.invariant.sizes)) (rw c.seat.view_is c.requires.waits.1) in search rules)

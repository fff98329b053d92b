use Rattle.std.proofs.Common.{rules, arith}
use Rattle.sdd_domain_invariant.specs.Codes.{free_word, waiting_word}
use Rattle.sdd_domain_invariant.specs.Fractions.FractionSteps.{DefersJob}
use Rattle.sdd_atomics.proofs.Allowed.{moved_at}
use Rattle.sdd_atomics.proofs.JobsAllowed.{may_defer}
use Rattle.sdd_atomics.proofs.Sitting.{numbers, sits, stays}
use Rattle.sdd_atomics.proofs.steps.jobs.defer.Goals as goal

pub compare_exchange-requires : goal.compare_exchange-requires
compare_exchange-requires c = let k = sits _ _ _ c.seat.view_is c.seat.invariant in let n = numbers k in
    rw c.seat.view_is (let r = c.requires in
    (k.home, omega arith, may_defer _ _ _ _ _ k.sizes k.gamma r.ready.place _ c.args.place c.slot_word.ensures (omega arith, omega arith) r.ready.rests))

pub returns : goal.returns
returns c =
    rw (← c.seat.view_is) (let e = c.compare_exchange.ensures in
    moved_at c.seat.inside.seat _ c.compare_exchange.result e.0 e.1 (λ slot. DefersJob slot (free_word 0) (waiting_word 0)) _ c.args.place _
    c.slot_word.ensures c.seat.invariant.sizes e.2)

pub invariant_of-seat : goal.invariant_of-seat
invariant_of-seat c = let m = (let e = c.compare_exchange.ensures in
    moved_at c.seat.inside.seat _ c.compare_exchange.result e.0 e.1 (λ slot. DefersJob slot (free_word 0) (waiting_word 0)) _ c.args.place _
    c.slot_word.ensures c.seat.invariant.sizes e.2) in
    stays _ _ _ c.seat.invariant m.0 (let h = m in search rules)

use Rattle.std.proofs.Common.{rules, arith}
use Rattle.sdd_domain_invariant.specs.Fractions.FractionSteps.{EndsAll}
use Rattle.sdd_atomics.proofs.Allowed.{taught, may_end}
use Rattle.sdd_atomics.proofs.Sitting.{numbers, sits, state_at, stays}
use Rattle.sdd_atomics.proofs.steps.epoch.end.Goals as goal

pub store-requires : goal.store-requires
store-requires c = let k = sits _ _ _ c.seat.view_is c.seat.invariant in let n = numbers k in
    rw c.seat.view_is (let sized = c.seat.inside.table.now.sized in let r = c.requires in
    (k.home, omega arith, may_end _ _ _ _ _ _ r.closed (state_at k _ _ r.own.0) (omega arith) r.rests r.within))

pub returns : goal.returns
returns c =
    rw (← c.seat.view_is) (let e = c.store.ensures in taught c.seat.inside.seat _ 3 e.0 e.1 EndsAll e.2)

pub invariant_of-seat : goal.invariant_of-seat
invariant_of-seat c = let m = (let e = c.store.ensures in taught c.seat.inside.seat _ 3 e.0 e.1 EndsAll e.2) in
    stays _ _ _ c.seat.invariant m.0 (let h = m in search rules)

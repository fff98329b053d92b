use Rattle.std.proofs.Common.{rules, arith}
use Rattle.sdd_domain_invariant.specs.Epoch.EpochSteps.{Locks}
use Rattle.sdd_atomics.proofs.Allowed.{told, may_lock}
use Rattle.sdd_atomics.proofs.Sitting.{numbers, sits, stays}
use Rattle.sdd_atomics.proofs.steps.epoch.lock.Goals as goal

pub compare_exchange-requires : goal.compare_exchange-requires
compare_exchange-requires c = let k = sits _ _ _ c.seat.view_is c.seat.invariant in let n = numbers k in
    rw c.seat.view_is (let sized = c.seat.inside.table.now.sized in let r = c.requires in (k.home, omega arith, may_lock _ _ _ _ _ r.open.0 r.open.1))

pub returns : goal.returns
returns c =
    rw (← c.seat.view_is) (let e = c.compare_exchange.ensures in told c.seat.inside.seat _ c.compare_exchange.result e.0 e.1 Locks e.2)

pub invariant_of-seat : goal.invariant_of-seat
invariant_of-seat c = let m = (let e = c.compare_exchange.ensures in told c.seat.inside.seat _ c.compare_exchange.result e.0 e.1 Locks e.2) in
    stays _ _ _ c.seat.invariant m.0.0.0 (m.0.0.3, (let h = m in search rules))

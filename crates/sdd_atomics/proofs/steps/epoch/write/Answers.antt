use Rattle.std.proofs.Common.{rules, arith}
use Rattle.sdd_domain_invariant.specs.Epoch.EpochSteps.{Counts}
use Rattle.sdd_atomics.proofs.Allowed.{told, may_write}
use Rattle.sdd_atomics.proofs.Sitting.{numbers, sits, state_at, stays}
use Rattle.sdd_atomics.proofs.steps.epoch.write.Goals as goal

pub store-requires : goal.store-requires
store-requires c = let k = sits _ _ _ c.seat.view_is c.seat.invariant in let n = numbers k in
    rw c.seat.view_is (let sized = c.seat.inside.table.now.sized in let r = c.requires in
    (k.home, omega arith, may_write _ _ _ _ _ _ _ r.closed (let at = (state_at k _ _ r.own.0) in omega arith) (omega arith)))

pub returns : goal.returns
returns c =
    rw (← c.seat.view_is) (let e = c.store.ensures in told c.seat.inside.seat _ c.args.count e.0 e.1 Counts e.2)

pub invariant_of-seat : goal.invariant_of-seat
invariant_of-seat c = let m = (let e = c.store.ensures in told c.seat.inside.seat _ c.args.count e.0 e.1 Counts e.2) in
    stays _ _ _ c.seat.invariant m.0.0.0 (m.0.0.3, (let h = m in search rules))

use Rattle.std.proofs.Common.{rules, arith}
use Rattle.sdd_domain_invariant.specs.Epoch.EpochSteps.{Reads}
use Rattle.sdd_atomics.proofs.Allowed.{told, may_read}
use Rattle.sdd_atomics.proofs.Sitting.{numbers, sits, stays}
use Rattle.sdd_atomics.proofs.steps.epoch.read.Goals as goal

pub load-requires : goal.load-requires
load-requires c = let k = sits _ _ _ c.seat.view_is c.seat.invariant in let n = numbers k in
    rw c.seat.view_is (let sized = c.seat.inside.table.now.sized in let r = c.requires in (k.home, omega arith, may_read _ _ _ _ _))

pub returns : goal.returns
returns c =
    rw (← c.seat.view_is) (let e = c.load.ensures in told c.seat.inside.seat _ c.load.result e.0 e.1 Reads e.2)

pub invariant_of-seat : goal.invariant_of-seat
invariant_of-seat c = let m = (let e = c.load.ensures in told c.seat.inside.seat _ c.load.result e.0 e.1 Reads e.2) in
    stays _ _ _ c.seat.invariant m.0.0.0 (m.0.0.3, (let h = m in search rules))

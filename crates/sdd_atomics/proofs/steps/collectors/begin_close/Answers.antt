use Rattle.std.proofs.Common.{rules}
use Rattle.sdd_atomics.proofs.CollectorsAllowed.{may_begin_close}
use Rattle.sdd_atomics.proofs.Sitting.{numbers, sits, stays}
use Rattle.sdd_atomics.proofs.steps.collectors.begin_close.Goals as goal

pub step_alone-requires : goal.step_alone-requires
step_alone-requires c = let k = sits _ _ _ c.seat.view_is c.seat.invariant in let n = numbers k in
    rw c.seat.view_is (let r = c.requires in record {
      table = k.home;
      allowed = may_begin_close _ _ _ _ _ k.sizes k.gamma r.place c.args.collector r.right r.idle;
    })

pub returns : goal.returns
returns c =
    rw (← c.seat.view_is) (let e = c.step_alone.ensures in (e.seat.0, e.seat.1, e.then c.args.collector (rw c.seat.view_is c.requires.right)))

pub invariant_of-seat : goal.invariant_of-seat
invariant_of-seat c = let e = c.step_alone.ensures in
    stays _ _ _ c.seat.invariant e.seat.0 (let h = e.then c.args.collector (rw c.seat.view_is c.requires.right) in search rules)

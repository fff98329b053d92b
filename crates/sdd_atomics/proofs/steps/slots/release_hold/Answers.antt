use Rattle.std.proofs.Common.{rules, arith}
use Rattle.sdd_domain_invariant.specs.Slots.SlotSteps.{LetsGo}
use Rattle.sdd_atomics.proofs.Allowed.{taught_at, may_let_go}
use Rattle.sdd_atomics.proofs.Sitting.{numbers, sits, stays}
use Rattle.sdd_atomics.proofs.steps.slots.release_hold.Goals as goal

pub load-requires : goal.load-requires
load-requires c = let k = sits _ _ _ c.seat.view_is c.seat.invariant in let n = numbers k in
    rw c.seat.view_is (let r = c.requires in
    (k.home, omega arith, may_let_go _ _ _ _ _ k.sizes k.gamma r.ready.place _ c.args.slot c.slot_word.ensures (omega arith) r.held r.ready.rests r.single))

pub returns : goal.returns
returns c =
    rw (← c.seat.view_is) (let e = c.load.ensures in
    taught_at c.seat.inside.seat _ c.load.result e.0 e.1 LetsGo _ c.args.slot _ c.slot_word.ensures c.seat.invariant.sizes e.2)

pub invariant_of-seat : goal.invariant_of-seat
invariant_of-seat c = let m = (let e = c.load.ensures in
    taught_at c.seat.inside.seat _ c.load.result e.0 e.1 LetsGo _ c.args.slot _ c.slot_word.ensures c.seat.invariant.sizes e.2) in
    stays _ _ _ c.seat.invariant m.0 (let h = m in search rules)

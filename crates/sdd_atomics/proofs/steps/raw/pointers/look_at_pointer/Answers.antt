use Rattle.std.proofs.Common.{rules, arith}
use Rattle.sdd_domain_invariant.specs.Cells.CellWordSteps.{LooksAtPointer}
use Rattle.sdd_domain_invariant.specs.Cells.CellSteps.{FindsPointer}
use Rattle.sdd_atomics.proofs.Pointers.{pointer_moved, may_look_at}
use Rattle.sdd_atomics.proofs.Sitting.{numbers, sits, stays}
use Rattle.sdd_atomics.proofs.steps.raw.pointers.look_at_pointer.Goals as goal

pub load-requires : goal.load-requires
load-requires c = let k = sits _ _ _ c.seat.view_is c.seat.invariant in let n = numbers k in
    rw c.seat.view_is (let r = c.requires in
    (k.home, omega arith, may_look_at _ _ _ _ _ k.sizes k.gamma r.ready.place r.ready.rests c.args.cell (omega arith) _ c.pointer_word.ensures))

pub returns : goal.returns
returns c =
    rw (← c.seat.view_is) (let e = c.load.ensures in
    pointer_moved c.seat.inside.seat _ c.load.result e.0 e.1 (FindsPointer LooksAtPointer) _ c.args.cell _ c.pointer_word.ensures c.seat.invariant.sizes e.2)

pub invariant_of-seat : goal.invariant_of-seat
invariant_of-seat c = let m = (let e = c.load.ensures in
    pointer_moved c.seat.inside.seat _ c.load.result e.0 e.1 (FindsPointer LooksAtPointer) _ c.args.cell _ c.pointer_word.ensures c.seat.invariant.sizes e.2) in
    stays _ _ _ c.seat.invariant m.0 (let h = m in search rules)

use Rattle.std.proofs.Common.{rules, arith}
use Rattle.sdd_domain_invariant.specs.Cells.CellSteps.{LooksInCell}
use Rattle.sdd_atomics.proofs.Cells.{cell_moved, may_look_in}
use Rattle.sdd_atomics.proofs.Sitting.{numbers, sits, stays}
use Rattle.sdd_atomics.proofs.steps.cells.look_in.Goals as goal

pub load-requires : goal.load-requires
load-requires c = let k = sits _ _ _ c.seat.view_is c.seat.invariant in let n = numbers k in
    rw c.seat.view_is (let r = c.requires in
    (k.home, omega arith, may_look_in _ _ _ _ _ k.sizes k.gamma r.ready.place r.ready.rests c.args.cell (omega arith) _ c.cell_word.ensures))

pub returns : goal.returns
returns c =
    rw (← c.seat.view_is) (let e = c.load.ensures in
    cell_moved c.seat.inside.seat _ c.load.result e.0 e.1 LooksInCell _ c.args.cell _ c.cell_word.ensures c.seat.invariant.sizes e.2)

pub invariant_of-seat : goal.invariant_of-seat
invariant_of-seat c = let m = (let e = c.load.ensures in
    cell_moved c.seat.inside.seat _ c.load.result e.0 e.1 LooksInCell _ c.args.cell _ c.cell_word.ensures c.seat.invariant.sizes e.2) in
    stays _ _ _ c.seat.invariant m.0 (let h = m in search rules)

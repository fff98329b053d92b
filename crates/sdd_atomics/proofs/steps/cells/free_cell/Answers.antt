use Rattle.std.proofs.Common.{rules, arith}
use Rattle.sdd_atomics.proofs.Cells.{may_free}
use Rattle.sdd_atomics.proofs.Sitting.{brings_keep, numbers, sits, stays}
use Rattle.sdd_atomics.proofs.steps.cells.free_cell.Goals as goal

pub swap-requires : goal.swap-requires
swap-requires c = let k = sits _ _ _ c.seat.view_is c.seat.invariant in let n = numbers k in
    rw c.seat.view_is (let r = c.requires in (
      k.home,
      omega arith,
      may_free _ _ _ _ _ k.sizes k.gamma r.ready.place r.ready.rests c.args.cell (omega arith) _ c.cell_word.ensures r.own.0 r.own.1 r.own.2 r.own.3
          r.right.0 r.right.1,
    ))

pub returns : goal.returns
returns c =
    rw (← c.seat.view_is) (λ shared mine. let e = c.swap.ensures in (
      e.0,
      e.1,
      e.2 c.args.cell shared (c.cell_word.ensures) mine,
    ))

pub invariant_of-seat : goal.invariant_of-seat
invariant_of-seat c = let shared = c.requires.right.0 in let e = c.swap.ensures in stays _ _ _ c.seat.invariant e.0
    (let h = e.2 c.args.cell shared c.cell_word.ensures (rw c.seat.view_is c.requires.right.1) in let m = brings_keep _ _ _ _ _ _ h.0.1 in let is = h.0.2 in
    search rules)

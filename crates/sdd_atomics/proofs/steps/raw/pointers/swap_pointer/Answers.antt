use Rattle.std.proofs.Common.{rules, arith}
use Rattle.sdd_domain_invariant.specs.Cells.CellWordSteps.{SwapsPointer}
use Rattle.sdd_domain_invariant.specs.Cells.CellSteps.{FindsPointer}
use Rattle.sdd_atomics.proofs.Pointers.{pointer_moved, may_swap}
use Rattle.sdd_atomics.proofs.Sitting.{numbers, sits, stays}
use Rattle.sdd_atomics.proofs.steps.raw.pointers.swap_pointer.Goals as goal

pub swap-requires : goal.swap-requires
swap-requires c = let k = sits _ _ _ c.seat.view_is c.seat.invariant in let n = numbers k in
    rw c.seat.view_is (let r = c.requires in (
      k.home,
      omega arith,
      may_swap _ _ _ _ _ k.sizes k.gamma r.ready.place r.ready.rests c.args.cell (omega arith) _ c.pointer_word.ensures
          c.args.word r.word,
    ))

pub returns : goal.returns
returns c =
    rw (← c.seat.view_is) (let e = c.swap.ensures in
    pointer_moved c.seat.inside.seat _ c.swap.result e.0 e.1 (FindsPointer (SwapsPointer c.args.word)) _ c.args.cell
    _ c.pointer_word.ensures c.seat.invariant.sizes e.2)

pub invariant_of-seat : goal.invariant_of-seat
invariant_of-seat c = let m = (let e = c.swap.ensures in
    pointer_moved c.seat.inside.seat _ c.swap.result e.0 e.1 (FindsPointer (SwapsPointer c.args.word)) _ c.args.cell
    _ c.pointer_word.ensures c.seat.invariant.sizes e.2) in
    stays _ _ _ c.seat.invariant m.0 (let h = m in search rules)

use Rattle.std.proofs.Common.{rules, arith}
use Rattle.sdd_atomics.proofs.Cells.{may_retag}
use Rattle.sdd_atomics.proofs.Sitting.{numbers, sits, stays}
use Rattle.sdd_atomics.proofs.steps.cells.retag_cell.Goals as goal

pub compare_exchange-requires : goal.compare_exchange-requires
compare_exchange-requires c = let k = sits _ _ _ c.seat.view_is c.seat.invariant in let n = numbers k in
    rw c.seat.view_is (let r = c.requires in (
      k.home,
      omega arith,
      may_retag _ _ _ _ _ k.sizes k.gamma r.ready.place r.ready.rests c.args.cell (omega arith) _ c.cell_word.ensures c.args.old c.args.word r.same r.word
          r.loose,
    ))

pub returns : goal.returns
returns c =
    rw (← c.seat.view_is) (let e = c.compare_exchange.ensures in (
      e.0,
      e.1,
      e.2 c.args.cell (c.cell_word.ensures),
    ))

pub invariant_of-seat : goal.invariant_of-seat
invariant_of-seat c = let e = c.compare_exchange.ensures in stays _ _ _ c.seat.invariant e.0 (let h = e.2 c.args.cell (c.cell_word.ensures) in search rules)

use Rattle.std.proofs.Common.{rules, arith}
use Rattle.sdd_domain_invariant.specs.Codes.{free_word}
use Rattle.sdd_domain_invariant.specs.Fractions.FractionSteps.{GivesAll}
use Rattle.sdd_atomics.proofs.Allowed.{moved_at, may_give_back}
use Rattle.sdd_atomics.proofs.Sitting.{numbers, row_at, sits, stays}
use Rattle.sdd_atomics.proofs.steps.slots.give_back.Goals as goal

pub store-requires : goal.store-requires
store-requires c = let k = sits _ _ _ c.seat.view_is c.seat.invariant in let n = numbers k in
    rw c.seat.view_is (let r = c.requires in (
      k.home,
      omega arith,
      may_give_back _ _ _ _ _ k.sizes k.gamma r.place _ c.args.slot c.slot_word.ensures (omega arith) r.due.0 r.due.1 r.row.0 (row_at k
          _ _ _ _ _ r.row.1),
    ))

pub returns : goal.returns
returns c =
    rw (← c.seat.view_is) (let e = c.store.ensures in
    moved_at c.seat.inside.seat _ (free_word 0) e.0 e.1 GivesAll _ c.args.slot _ c.slot_word.ensures c.seat.invariant.sizes e.2)

pub invariant_of-seat : goal.invariant_of-seat
invariant_of-seat c = let m = (let e = c.store.ensures in
    moved_at c.seat.inside.seat _ (free_word 0) e.0 e.1 GivesAll _ c.args.slot _ c.slot_word.ensures c.seat.invariant.sizes e.2) in
    stays _ _ _ c.seat.invariant m.0 (let h = m in search rules)

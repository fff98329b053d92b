use Rattle.std.proofs.Common.{rules, arith}
use Rattle.sdd_atomics.proofs.PrivateItemsAllowed.{reclaimed_at, may_reclaim}
use Rattle.sdd_atomics.proofs.Sitting.{numbers, sits, stays}
use Rattle.sdd_atomics.proofs.steps.collectors.emptying.reclaim_private.Goals as goal

pub compare_exchange-requires : goal.compare_exchange-requires
compare_exchange-requires c = let k = sits _ _ _ c.seat.view_is c.seat.invariant in let n = numbers k in
    rw c.seat.view_is (let r = c.requires in (
      k.home,
      omega arith,
      may_reclaim _ _ _ _ _ k.sizes k.gamma r.ready.place c.args.slot (omega arith) _ c.slot_word.ensures c.args.collector r.waits (omega arith) r.ready.rests _
          c.private_word-word.ensures,
    ))

pub returns : goal.returns
returns c =
    rw (← c.seat.view_is) (let e = c.compare_exchange.ensures in
    reclaimed_at c.seat.inside.seat _ c.compare_exchange.result e.0 e.1 c.args.collector _ c.private_word-word.ensures _ c.args.slot _ c.slot_word.ensures
    c.seat.invariant.sizes e.2)

pub invariant_of-seat : goal.invariant_of-seat
invariant_of-seat c = let m = (let e = c.compare_exchange.ensures in
    reclaimed_at c.seat.inside.seat _ c.compare_exchange.result e.0 e.1 c.args.collector _ c.private_word-word.ensures _ c.args.slot _ c.slot_word.ensures
    c.seat.invariant.sizes e.2) in
    stays _ _ _ c.seat.invariant m.0 (let h = m in search rules)

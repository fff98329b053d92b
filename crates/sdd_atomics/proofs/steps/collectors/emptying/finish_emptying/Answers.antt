use Rattle.std.proofs.Common.{rules, arith}
use Rattle.sdd_domain_invariant.specs.Collectors.CollectorSteps.{EmptiedOne}
use Rattle.sdd_atomics.proofs.Allowed.{moved_at}
use Rattle.sdd_atomics.proofs.PrivateItemsAllowed.{may_finish_emptying}
use Rattle.sdd_atomics.proofs.Sitting.{numbers, row_at, sits, stays}
use Rattle.sdd_atomics.proofs.steps.collectors.emptying.finish_emptying.Goals as goal

pub compare_exchange-requires : goal.compare_exchange-requires
compare_exchange-requires c = let k = sits _ _ _ c.seat.view_is c.seat.invariant in let n = numbers k in
    rw c.seat.view_is (let r = c.requires in (
      k.home,
      omega arith,
      may_finish_emptying _ _ _ _ _ k.sizes k.gamma r.place c.args.slot (omega arith) _ c.slot_word.ensures r.emptied.0 r.emptied.1 r.row.0 (row_at k _ _ _
          _ _ r.row.1),
    ))

pub returns : goal.returns
returns c =
    rw (← c.seat.view_is) (let e = c.compare_exchange.ensures in
    moved_at c.seat.inside.seat _ c.compare_exchange.result e.0 e.1 EmptiedOne _ c.args.slot _ c.slot_word.ensures c.seat.invariant.sizes e.2)

pub invariant_of-seat : goal.invariant_of-seat
invariant_of-seat c = let m = (let e = c.compare_exchange.ensures in
    moved_at c.seat.inside.seat _ c.compare_exchange.result e.0 e.1 EmptiedOne _ c.args.slot _ c.slot_word.ensures c.seat.invariant.sizes e.2) in
    stays _ _ _ c.seat.invariant m.0 (let h = m in search rules)

use Rattle.std.proofs.Common.{rules, arith}
use Rattle.sdd_domain_invariant.specs.Codes.{waiting_word}
use Rattle.sdd_domain_invariant.specs.Fractions.FractionSteps.{RetiresOne}
use Rattle.sdd_atomics.proofs.Allowed.{moved_at, may_retire}
use Rattle.sdd_atomics.proofs.Sitting.{numbers, sits, stays}
use Rattle.sdd_atomics.proofs.steps.slots.retire.Goals as goal

pub store-requires : goal.store-requires
store-requires c = let k = sits _ _ _ c.seat.view_is c.seat.invariant in let n = numbers k in
    rw c.seat.view_is (let r = c.requires in (
      k.home,
      omega arith,
      may_retire _ _ _ _ _ k.sizes k.gamma r.ready.place _ c.args.slot c.slot_word.ensures (omega arith) r.own.0 r.own.1 r.own.2 r.ready.rests r.told.0
          r.told.1,
    ))

pub returns : goal.returns
returns c =
    rw (← c.seat.view_is) (let e = c.store.ensures in
    moved_at c.seat.inside.seat _ (waiting_word 0) e.0 e.1 RetiresOne _ c.args.slot _ c.slot_word.ensures c.seat.invariant.sizes e.2)

pub invariant_of-seat : goal.invariant_of-seat
invariant_of-seat c = let m = (let e = c.store.ensures in
    moved_at c.seat.inside.seat _ (waiting_word 0) e.0 e.1 RetiresOne _ c.args.slot _ c.slot_word.ensures c.seat.invariant.sizes e.2) in
    stays _ _ _ c.seat.invariant m.0 (let h = m in search rules)

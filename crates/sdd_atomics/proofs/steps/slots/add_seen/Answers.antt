use Rattle.std.proofs.Common.{rules, arith}
use Rattle.sdd_domain_invariant.specs.Fractions.FractionSteps.{AddsSeen}
use Rattle.sdd_domain_invariant.proofs.Codes.{shared, counted_is}
use Rattle.sdd_atomics.proofs.Allowed.{moved_at, may_add_seen}
use Rattle.sdd_atomics.proofs.Sitting.{numbers, sits, stays}
use Rattle.sdd_atomics.proofs.steps.slots.add_seen.Goals as goal

pub overflow_add-word : goal.overflow_add-word
overflow_add-word c = let r = c.requires in let a = counted_is c.args.word r.several.0 in let n = (shared c.args.word a).0 in let few = r.several.2 in
    omega arith

pub compare_exchange-requires : goal.compare_exchange-requires
compare_exchange-requires c = let k = sits _ _ _ c.seat.view_is c.seat.invariant in let n = numbers k in
    rw c.seat.view_is (let r = c.requires in (
      k.home,
      omega arith,
      may_add_seen _ _ _ _ _ k.sizes k.gamma r.ready.place _ c.args.slot c.slot_word.ensures (omega arith) r.ready.rests r.within r.still c.args.word
          r.several.0 r.several.1
          r.several.2,
    ))

pub returns : goal.returns
returns c =
    rw (← c.seat.view_is) (let e = c.compare_exchange.ensures in
    moved_at c.seat.inside.seat _ c.compare_exchange.result e.0 e.1 (AddsSeen c.args.word) _ c.args.slot _ c.slot_word.ensures c.seat.invariant.sizes e.2)

pub invariant_of-seat : goal.invariant_of-seat
invariant_of-seat c = let m = (let e = c.compare_exchange.ensures in
    moved_at c.seat.inside.seat _ c.compare_exchange.result e.0 e.1 (AddsSeen c.args.word) _ c.args.slot _ c.slot_word.ensures c.seat.invariant.sizes e.2) in
    stays _ _ _ c.seat.invariant m.0 (let h = m in search rules)

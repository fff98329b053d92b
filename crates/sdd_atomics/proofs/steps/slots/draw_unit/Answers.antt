use Rattle.std.proofs.Common.{arith}
use Rattle.sdd_shared_values.specs.Bank.{Leaves}
use Rattle.sdd_atomics.specs.DomainTable.{gamma_of, sizes_of}
use Rattle.sdd_atomics.proofs.Allowed.{as_banked}
use Rattle.sdd_atomics.proofs.ClonedOwner.{may_draw}
use Rattle.sdd_atomics.proofs.Sitting.{numbers, sits}
use Rattle.sdd_atomics.proofs.steps.slots.draw_unit.Goals as goal

pub draw-requires-clause-allowed : goal.draw-requires-clause-allowed
draw-requires-clause-allowed c = let k = sits _ _ _ c.seat.view_is c.seat.invariant in let n = numbers k in
    rw c.seat.view_is (let r = c.requires in let b = c.seat.inside.table.now in as_banked b Leaves _ _ _ _ _ _
    (may_draw (gamma_of b) (sizes_of b) _ _ _ k.sizes k.gamma r.ready.place r.ready.rests b.sized.0.participants c.args.slot (omega arith) _ r.own.0.0
    r.own.0.1 r.own.0.2
    r.own.1 r.own.2))

pub returns : goal.returns
returns c = let e = c.draw.ensures in rw (← c.seat.view_is) (e.seat.0, e.seat.1, e.then)

use Rattle.std.proofs.Common.{arith}
use Rattle.sdd_shared_values.specs.Bank.{Leaves}
use Rattle.sdd_atomics.specs.DomainTable.{gamma_of, sizes_of}
use Rattle.sdd_atomics.proofs.Allowed.{as_banked}
use Rattle.sdd_atomics.proofs.PrivateItemsAllowed.{may_take_private}
use Rattle.sdd_atomics.proofs.Sitting.{numbers, sits}
use Rattle.sdd_atomics.proofs.steps.collectors.emptying.take_private.Goals as goal

pub draw-requires-clause-allowed : goal.draw-requires-clause-allowed
draw-requires-clause-allowed c = let k = sits _ _ _ c.seat.view_is c.seat.invariant in let n = numbers k in
    rw c.seat.view_is (let r = c.requires in let b = c.seat.inside.table.now in
    as_banked b Leaves _ _ _ _ _ _ (may_take_private (gamma_of b) (sizes_of b) _ _ _ k.sizes k.gamma r.ready.place c.args.slot (omega arith) _ r.ready.rests
    r.empties))

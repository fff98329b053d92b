use Rattle.std.proofs.Common.{arith}
use Rattle.sdd_shared_values.specs.Bank.{Comes}
use Rattle.sdd_atomics.specs.DomainTable.{gamma_of, sizes_of}
use Rattle.sdd_atomics.proofs.Allowed.{as_banked, may_enter_unit}
use Rattle.sdd_atomics.proofs.Sitting.{numbers, sits}
use Rattle.sdd_atomics.proofs.steps.slots.enter_unit.Goals as goal

pub enter-requires-clause-allowed : goal.enter-requires-clause-allowed
enter-requires-clause-allowed c = let k = sits _ _ _ c.seat.view_is c.seat.invariant in let n = numbers k in
    rw c.seat.view_is (let r = c.requires in let b = c.seat.inside.table.now in as_banked b Comes _ _ _ _ _ _
    (may_enter_unit (gamma_of b) (sizes_of b) _ _ _ k.sizes k.gamma r.place _ c.args.slot (omega arith) r.own.0 r.own.1 c.args.unit.content (rw (← k.gamma)
    r.unit) r.told))

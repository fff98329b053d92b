use Rattle.std.proofs.Common.{arith}
use Rattle.sdd_atomics.proofs.Allowed.{may_close}
use Rattle.sdd_atomics.proofs.Sitting.{carried_at, numbers, sits, state_at}
use Rattle.sdd_atomics.proofs.steps.epoch.close.Goals as goal

pub store-requires : goal.store-requires
store-requires c = let k = sits _ _ _ c.seat.view_is c.seat.invariant in let n = numbers k in
    rw c.seat.view_is (let sized = c.seat.inside.table.now.sized in let r = c.requires in (
      k.home,
      omega arith,
      may_close _ _ _ _ _ k.sizes k.gamma (omega (
        arith,
        r.open,
      )) _ (state_at k _ _ r.own.0) r.open.0 r.open.1 (omega arith) r.rests (carried_at k _ _ _ r.carries),
    ))

use Rattle.sdd_domain_invariant.proofs.Seats.{parts_owner}
use Rattle.sdd_atomics.proofs.Sitting.{numbers, sits}
use Rattle.sdd_atomics.proofs.steps.slots.cut.Goals as goal

pub part-requires : goal.part-requires
part-requires c = let k = sits _ _ _ c.seat.view_is c.seat.invariant in let n = numbers k in
    rw c.seat.view_is (let r = c.requires in (k.home, parts_owner _ _ _ _ r.one.0 r.ready.place k.sizes r.one.1 r.one.2 r.free r.ready.rests))

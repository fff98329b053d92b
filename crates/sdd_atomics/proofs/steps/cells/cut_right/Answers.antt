use Rattle.sdd_domain_invariant.proofs.Cells.RightSeats.{parts_right}
use Rattle.sdd_atomics.proofs.Sitting.{numbers, sits}
use Rattle.sdd_atomics.proofs.steps.cells.cut_right.Goals as goal

pub part-requires : goal.part-requires
part-requires c = let k = sits _ _ _ c.seat.view_is c.seat.invariant in let n = numbers k in
    rw c.seat.view_is (let r = c.requires in (k.home, parts_right _ _ _ _ r.place k.sizes))

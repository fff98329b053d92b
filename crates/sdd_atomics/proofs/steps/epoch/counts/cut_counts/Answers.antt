use Rattle.sdd_domain_invariant.proofs.Seats.{parts_counts}
use Rattle.sdd_atomics.proofs.steps.epoch.counts.cut_counts.Goals as goal

pub part-requires : goal.part-requires
part-requires c = let r = c.requires in (r.home, parts_counts _ _ _ _ r.over)

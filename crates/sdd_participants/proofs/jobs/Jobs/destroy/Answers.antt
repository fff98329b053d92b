use Rattle.sdd_participants.proofs.JobsAtPlaces.{not-last}
use Rattle.sdd_participants.proofs.jobs.Jobs.destroy.Goals as goal

pub unreachable-requires : goal.unreachable-requires
unreachable-requires g c =
    let some = rw (c.in-Some.is, c.in-Some-job.is) at c.pop.ensures.items in
    not-last c.pop.new.self.items c.loop-job.jobs.items c.in-Some-job.field-0 some c.loop-job.invariant

use Rattle.sdd_participants.proofs.JobsAtPlaces.{beside-none}
use Rattle.sdd_participants.proofs.jobs.Jobs.new.Goals as goal

pub invariant_of-result : goal.invariant_of-result
invariant_of-result g c = beside-none c.args.size _ _ c.in_ok-numbers.ensures c.in_ok-jobs.ensures

use Rattle.sdd_interpreter.proofs.Words.{IsNonDecreasingBy-from_sort, JobName}
use Rattle.sdd_interpreter.proofs.log.Log.jobs_among.Goals as goal

pub returns-clause-named : goal.returns-clause-named
returns-clause-named c =
    rw (c.as_slice.ensures.value, c.as_slice-2.ensures.value, c.in_ok-places.ensures) at (rw c.in_ok-jobs.ensures at c.sort_unstable.ensures.permutation)

pub returns-clause-ascending : goal.returns-clause-ascending
returns-clause-ascending c = IsNonDecreasingBy-from_sort (λ (j : JobName). j.0) c.sort_unstable.new.self.items c.sort_unstable.ensures.sorted

use Rattle.std.proofs.Common.{vec_len}
use Rattle.std.proofs.Common.{◌≡◌, ℕ, None, slice_index_or}
use Rattle.sdd_domain_steps.proofs.jobs.deferred_jobs.DeferredJobs.destroy.Given as goal

abbrev pub decreases-loop-job : goal.decreases-loop-job
decreases-loop-job g l = vec_len l.jobs

abbrev pub invariant-loop-job : goal.invariant-loop-job
invariant-loop-job g l = (k : ℕ) → slice_index_or l.jobs.items k None ≡ None

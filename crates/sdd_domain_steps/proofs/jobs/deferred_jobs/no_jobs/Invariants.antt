use Rattle.std.proofs.Common.{◌≡◌, ◌≤◌, None, replicate, vec_len, vec_capacity}
use Rattle.sdd_domain_steps.proofs.jobs.deferred_jobs.no_jobs.Given as goal

abbrev pub invariant-loop-place : goal.invariant-loop-place
invariant-loop-place g l = (l.jobs.items ≡ replicate l._place None) × (vec_len l.jobs ≡ l._place) × (l.places ≤ vec_capacity l.jobs)

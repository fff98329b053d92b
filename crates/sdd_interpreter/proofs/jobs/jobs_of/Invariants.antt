use Rattle.sdd_interpreter.proofs.Words.{job_in, length, map, take, vec_capacity, ◌≡◌, ◌≤◌}
use Rattle.sdd_interpreter.proofs.jobs.jobs_of.Given as goal

abbrev pub invariant-loop-place : goal.invariant-loop-place
invariant-loop-place l = (l.found.items ≡ map (job_in l.deferred) (take l.place-index l.places)) × (length l.places ≤ vec_capacity l.found)

use Rattle.std.proofs.Common.{ℕ, ◌<◌, ◌≤◌}
use Rattle.sdd_domain_steps.specs.Claims.{Misses}
use Rattle.sdd_domain_steps.specs.Sightings.{AreSeenTaken, SearchesOn}
use Rattle.sdd_domain_steps.proofs.jobs.claims.walk.Given as goal

abbrev pub invariant-loop-place : goal.invariant-loop-place
invariant-loop-place l = record {
  misses : Misses (λ (k : ℕ). (l.from ≤ k) × (k < l.place)) l.fn.seat l.seat;
  left : 0 < l.search.left;
  on : SearchesOn l.fn.search l.search;
  seen : AreSeenTaken l.from l.place l.search.seen;
}

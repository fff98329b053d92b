use Rattle.std.proofs.Common.{ℕ, ◌<◌, ◌≤◌}
use Rattle.sdd_domain_steps.specs.Cells.{MissesCells}
use Rattle.sdd_domain_steps.specs.Sightings.{AreSeenTaken, SearchesOn}
use Rattle.sdd_domain_steps.proofs.cells.claims.walk.Given as goal

abbrev pub invariant-loop-cell : goal.invariant-loop-cell
invariant-loop-cell l = record {
  misses : MissesCells (λ (k : ℕ). (l.from ≤ k) × (k < l.cell)) l.fn.seat l.seat;
  left : 0 < l.search.left;
  on : SearchesOn l.fn.search l.search;
  seen : AreSeenTaken l.from l.cell l.search.seen;
}

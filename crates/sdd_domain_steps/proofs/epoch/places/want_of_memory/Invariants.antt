use Rattle.std.proofs.Common.{◌≡◌, length}
use Rattle.sdd_atomics.specs.DomainTable.{places_of}
use Rattle.sdd_domain_steps.specs.Sightings.{AreSeenTaken}
use Rattle.sdd_domain_steps.proofs.epoch.places.want_of_memory.Given as goal

abbrev pub invariant-loop-place : goal.invariant-loop-place
invariant-loop-place l = record {
  seen : AreSeenTaken 0 l.place l.seen;
  size : length l.seen.taken ≡ places_of l.table;
}

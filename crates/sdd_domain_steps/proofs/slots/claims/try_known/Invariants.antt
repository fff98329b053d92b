use Rattle.std.proofs.Common.{◌≡◌, ◌<◌}
use Rattle.sdd_domain_steps.specs.Claims.{IsUnmoved}
use Rattle.sdd_domain_steps.specs.Sightings.{SearchesOn}
use Rattle.sdd_domain_steps.proofs.slots.claims.try_known.Given as goal

abbrev pub invariant-loop : goal.invariant-loop
invariant-loop l = record {
  same : IsUnmoved l.fn.seat l.seat;
  slots : l.known.slots ≡ l.fn.known.slots;
  next : l.known.next ≡ l.fn.known.next;
  left : 0 < l.search.left;
  on : SearchesOn l.fn.search l.search;
}

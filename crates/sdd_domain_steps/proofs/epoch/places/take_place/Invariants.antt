use Rattle.sdd_atomics.specs.SeatAtTable.{facts_at}
use Rattle.std.proofs.Common.{◌≡◌, length}
use Rattle.sdd_rights.specs.Views.{nobody}
use Rattle.sdd_domain_invariant.specs.Slots.SlotSteps.{blank}
use Rattle.sdd_atomics.specs.DomainSeat.{epoch, words_known, IsSameBut}
use Rattle.sdd_atomics.specs.TableFacts.{sizes_of, places_of}
use Rattle.sdd_domain_steps.specs.Sightings.{AreSeenTaken}
use Rattle.sdd_domain_steps.proofs.epoch.places.take_place.Given as goal

abbrev pub invariant-loop-place : goal.invariant-loop-place
invariant-loop-place l = record {
  same : IsSameBut l.fn.seat l.seat;
  idle : epoch l.seat ≡ nobody (places_of (facts_at l.fn.seat));
  seen : AreSeenTaken 0 l.place l.seen;
  size : length l.seen.taken ≡ places_of (facts_at l.fn.seat);
  blank : words_known l.seat ≡ blank (sizes_of (facts_at l.fn.seat));
  sizes : l.seat.me.0.sizes ≡ sizes_of (facts_at l.fn.seat);
}

use Rattle.std.proofs.Common.{◌≡◌}
use Rattle.sdd_domain_steps.specs.Sightings.{KeepsMarks}
use Rattle.sdd_domain_steps.proofs.epoch.quiet.are_free.Given as goal

abbrev pub invariant-loop-slot : goal.invariant-loop-slot
invariant-loop-slot l = record {
  home : l.seat.table_id ≡ l.fn.seat.table_id;
  sizes : l.seat.me.0.sizes ≡ l.fn.seat.me.0.sizes;
  ended : l.seat.me.0.places.ended ≡ l.fn.seat.me.0.places.ended;
  counts : l.seat.me.0.fractions.counts ≡ l.fn.seat.me.0.fractions.counts;
  kept : KeepsMarks l.fn.seen.taken l.seen.taken;
  quiet : l.seat.me.0.places.quiet ≡ l.slot;
}

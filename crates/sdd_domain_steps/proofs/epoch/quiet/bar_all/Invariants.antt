use Rattle.std.proofs.Common.{◌≡◌}
use Rattle.sdd_rights.specs.Views.{no_counts}
use Rattle.sdd_atomics.specs.DomainTable.{id_of, sizes_of}
use Rattle.sdd_domain_steps.specs.Sightings.{KeepsMarks}
use Rattle.sdd_domain_steps.proofs.epoch.quiet.bar_all.Given as goal

abbrev pub invariant-loop-place : goal.invariant-loop-place
invariant-loop-place l = record {
  home : l.seat.table_id ≡ id_of l.table;
  sizes : l.seat.me.0.sizes ≡ sizes_of l.table;
  ended : l.seat.me.0.places.ended ≡ l.place;
  quiet : l.seat.me.0.places.quiet ≡ 0;
  kept : KeepsMarks l.fn.seen.taken l.seen.taken;
  none : l.seat.me.0.fractions.counts ≡ no_counts;
}

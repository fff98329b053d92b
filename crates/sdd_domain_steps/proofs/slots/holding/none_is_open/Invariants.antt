use Rattle.std.proofs.Common.{◌≡◌, ◌<◌}
use Rattle.sdd_domain_invariant.specs.Epoch.{IsOpen}
use Rattle.sdd_atomics.specs.DomainSeat.{view, epoch}
use Rattle.sdd_domain_steps.specs.InPlace.{looked_to}
use Rattle.sdd_domain_steps.proofs.slots.holding.none_is_open.Given as goal

abbrev pub invariant-loop-place : goal.invariant-loop-place
invariant-loop-place l = record {
  table : l.seat.table_id ≡ l.fn.seat.table_id;
  number : l.seat.id ≡ l.fn.seat.id;
  others : l.seat.me.1 ≡ l.fn.seat.me.1;
  view : view l.seat ≡ looked_to l.place (view l.fn.seat);
  quiet : (epoch l.fn.seat).place < l.place → ¬ (IsOpen (epoch l.fn.seat));
}

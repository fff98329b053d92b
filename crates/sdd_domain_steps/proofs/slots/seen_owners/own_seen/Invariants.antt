use Rattle.std.proofs.Common.{◌≡◌, ◌<◌}
use Rattle.sdd_domain_invariant.specs.Codes.{held_word}
use Rattle.sdd_domain_invariant.specs.Epoch.{IsLone}
use Rattle.sdd_domain_invariant.specs.Slots.KindsInvariant.{written}
use Rattle.sdd_domain_steps.specs.Cells.{IsWith}
use Rattle.sdd_domain_steps.proofs.slots.seen_owners.own_seen.Given as goal

abbrev pub invariant-loop-attempt : goal.invariant-loop-attempt
invariant-loop-attempt l = record {
  same : IsWith l.fn.seat.me.0 l.fn.seat l.seat;
  held : 0 < l._attempt → IsLone l.fn.seat.me.0.epoch → written l.fn.seat.me.0 l.slot ≡ held_word;
}

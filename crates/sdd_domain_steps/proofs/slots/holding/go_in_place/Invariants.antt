use Rattle.sdd_atomics.specs.SeatAtTable.{facts_at}
use Rattle.std.specs.Prelude.{◌≡◌, ◌<◌}
use base.Stored.{Gv}
use Rattle.sdd_rights.specs.Owner.{witness_of_owner}
use Rattle.sdd_atomics.specs.TableFacts.{id_of, gamma_of}
use Rattle.sdd_atomics.specs.ReadFractions.{IsReadFractionOf}
use Rattle.sdd_domain_steps.proofs.slots.holding.go_in_place.Given as goal

-- the seat is as it was, and the owner, which has a unit, is the one that was given
abbrev pub invariant-loop-gone : goal.invariant-loop-gone
invariant-loop-gone g l = record {
  same : l.seat ≡ l.fn.seat;
  table : l.owner.table_id ≡ id_of (facts_at l.fn.seat);
  views : l.owner.views ≡ l.fn.owner.views;
  read_fraction : (value : Gv) → l.fn.owner.views ≡ witness_of_owner l.fn.slot l.fn.shared value
      → IsReadFractionOf (gamma_of (facts_at l.fn.seat)) l.fn.slot value l.read_fraction;
  left : 0 < l.left;
}

abbrev pub decreases-loop-gone : goal.decreases-loop-gone
decreases-loop-gone g l = l.left

use Rattle.std.proofs.Common.{◌≡◌, false, List, [], ◌∷◌, ◌++◌, All}
use Rattle.sdd_domain_steps.specs.Receipt.{Receipt, HasTaken}
use Rattle.sdd_domain_core.proofs.closing.take_all_counts.Given as goal

-- the receipts that are left, and those that were taken
abbrev pub invariant-loop-receipt : goal.invariant-loop-receipt
invariant-loop-receipt g l = record {
  home : l.seat.table_id ≡ l.fn.seat.table_id;
  homes : All (λ (r : Receipt). r.home.tables ≡ l.fn.seat.table_id ∷ []) l.receipts.items;
  over : All (λ (r : Receipt). r.waits ≡ false) l.receipts.items;
  places : l.seat.me.0.places ≡ l.fn.seat.me.0.places;
  taken : (done : List Receipt) × (l.fn.receipts.items ≡ l.receipts.items ++ done) × HasTaken done l.seat.me.0.fractions.counts;
}

abbrev pub decreases-loop-receipt : goal.decreases-loop-receipt
decreases-loop-receipt g l = goal.left-loop-receipt g l

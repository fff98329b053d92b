use Rattle.std.proofs.Common.{◌≡◌, ◌-◌, ◌≤◌}
use Rattle.sdd_domain_core.proofs.SettledReceipts.{Going}
use Rattle.sdd_domain_core.proofs.closing.settle_all.Given as goal

abbrev pub invariant-loop-index : goal.invariant-loop-index
invariant-loop-index g l = record {
  few : l.left ≤ l.fn.left;
  held : l.held ≡ l.initial.held;
  going : Going (l.fn.left - l.left) l.index l.initial.receipts.items l.receipts.items;
}

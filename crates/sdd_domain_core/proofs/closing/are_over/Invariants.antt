use Rattle.std.proofs.Common.{◌≡◌, false, All, take}
use Rattle.sdd_domain_steps.specs.Receipt.{Receipt}
use Rattle.sdd_domain_core.proofs.closing.are_over.Given as goal

abbrev pub invariant-loop-receipt : goal.invariant-loop-receipt
invariant-loop-receipt g l = All (λ (r : Receipt). r.waits ≡ false) (take l.receipt-index l.receipts.items)

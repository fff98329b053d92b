use Rattle.std.proofs.Common.{◌≡◌, take}
use Rattle.sdd_domain_steps.specs.Receipt.{sum_of}
use Rattle.sdd_domain_core.proofs.domain.tally_of.Given as goal

abbrev pub invariant-loop-receipt : goal.invariant-loop-receipt
invariant-loop-receipt g l = l.sum ≡ sum_of (take l.receipt-index l.receipts.items)

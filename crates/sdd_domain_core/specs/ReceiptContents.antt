-- What is left of a participant that has ended, as a receipt
use Rattle.std.specs.Prelude.{false, true}
use Rattle.sdd_domain_core.specs.declared.receipt.ReceiptContents.{ReceiptContents}
use Rattle.sdd_domain_core.specs.declared.receipt.ReceiptContents.TheVariants.{Nothing, Items}
use Rattle.sdd_domain_steps.specs.Receipt.{Receipt}
use Rattle.sdd_domain_core.specs.Space.{slots_home}

-- its counts, or itself with what waits
abbrev pub receipt_of : {T J : Type 0} → ReceiptContents T J → Receipt
receipt_of (Nothing counts) = record counts { waits = false }
receipt_of (Items partaker) = record { home = slots_home partaker; tally = partaker.member.tally; waits = true }

-- Receipts of a domain
use Rattle.std.specs.Prelude.{◌≡◌, All, List, length}
use Rattle.sdd_rights.specs.Units as units
use Rattle.sdd_domain.specs.Domain.{limits_of}
use Rattle.sdd_domain.specs.Receipt.{Receipt}
use Rattle.sdd_domain_core.specs.declared.domain.Domain.{Domain}

-- the receipt is of the domain whose slots are numbered there
abbrev pub IsReceiptIn : units.GhostName → Receipt → Type 0
IsReceiptIn home receipt = receipt.home ≡ home

abbrev pub AreReceiptsIn : units.GhostName → List Receipt → Type 0
AreReceiptsIn home = All (IsReceiptIn home)

-- there are as many as places
abbrev pub AreOfAll : {T : Type 0} → Domain T → List Receipt → Type 0
AreOfAll d receipts = length receipts ≡ (limits_of d).participants

-- What a number or a storage holds, and which storage it is
use Rattle.std.specs.Prelude.{List, [], Option, None, Some}
use Rattle.sdd_world_model.specs.OwnerOrCell.{OwnerOrCell}
use Rattle.sdd_bag.specs.Storages.{StorageName, holdings_of}
use Rattle.sdd_world_tests.specs.declared.bags.cargo.Cargo.{Cargo}
use Rattle.sdd_world_tests.specs.declared.bags.cargo.Cargo.TheVariants.{Number, Stored}

abbrev pub holdings_in : Cargo → List OwnerOrCell
holdings_in (Number n) = []
holdings_in (Stored s) = holdings_of s

abbrev pub storage_in : Cargo → Option StorageName
storage_in (Number n) = None
storage_in (Stored s) = Some s

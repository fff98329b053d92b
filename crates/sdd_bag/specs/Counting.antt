-- How many storages there are for the values behind a bag's own
use Rattle.std.specs.Prelude.{ℕ, ◌≡◌, List, Option, length}
use Rattle.std.specs.Int.{div_ceil}
use Rattle.sdd_world_model.specs.World.{World}
use Rattle.sdd_lists.specs.declared.linked_entry.LinkedEntry.{LinkedEntry}
use Rattle.sdd_lists.specs.Lists.{Entry}
use Rattle.sdd_bag.specs.Storages.{StorageName}
use Rattle.sdd_bag.specs.Overflow.{LiesOn}
use Rattle.sdd_bag.specs.Bag.{BagParts, IsBag, overflow_of}

-- there are as many as there are values, divided by the places of one, rounded up
abbrev pub HasStoragesFor : {T B : Type 0} → (shown : B → Option StorageName) → (len : ℕ) → World (LinkedEntry B) → BagParts T B → Type 0
HasStoragesFor {B = B} shown len w bag =
    IsBag shown len w bag → (es : List (Entry (LinkedEntry B))) → LiesOn shown len w es bag.overflow → length es ≡ div_ceil (length (overflow_of bag)) len

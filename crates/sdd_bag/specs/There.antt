-- A bag that is in the space of who calls
use Rattle.std.specs.Prelude.{ℕ, Option}
use Rattle.sdd_space.specs.CallerId.{CallerId, IsExact, IsSeated}
use Rattle.sdd_world_model.specs.World.{World}
use Rattle.sdd_lists.specs.declared.linked_entry.LinkedEntry.{LinkedEntry}
use Rattle.sdd_bag.specs.Storages.{StorageName}
use Rattle.sdd_bag.specs.Bag.{BagParts, IsBag, IsOfCells}

-- who calls may call, and changes the world by what is said alone
pub record MayCall (caller : CallerId) : Type 0 where
  pub seated : IsSeated caller
  pub exact : IsExact caller

-- the bag is in this world, and its cells are too
pub record IsThere {T B : Type 0} (shown : B → Option StorageName) (len : ℕ) (caller : CallerId) (w : World (LinkedEntry B)) (bag : BagParts T B) : Type 0 where
  pub home : IsOfCells caller.home.cells bag
  pub lies : IsBag shown len w bag

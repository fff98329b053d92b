-- What is in a bag, and how it lies in a world
use Rattle.std.specs.Prelude.{ℕ, ◌≡◌, ◌<◌, ◌++◌, List, [], Option, length, map}
use Rattle.sdd_bag.specs.Storage.{AreEmpty, empty_place}
use Rattle.sdd_bag.specs.Values.{HasOneMore}
use Rattle.sdd_bag.specs.KeyedPlaces.{PlaceName}
use Rattle.sdd_rights.specs.Units.{GhostName}
use Rattle.sdd_world_model.specs.World.{World}
use Rattle.sdd_lists.specs.declared.linked_entry.LinkedEntry.{LinkedEntry}
use Rattle.sdd_lists.specs.Lists.{Entry}
use Rattle.sdd_lists.specs.Stack.{home_in}
use Rattle.sdd_bag.specs.Storages.{StorageName}
use Rattle.sdd_bag.specs.Primary.{PrimaryParts, held_by}
use Rattle.sdd_bag.specs.Overflow.{KeepsPlaces, LiesOn, OverflowParts, spilled_in}

pub record BagParts (T B : Type 0) : Type 0 where
  pub primary : PrimaryParts T
  pub overflow : OverflowParts T B

module _ {T B : Type 0} where
  -- the values that lie in the bag itself
  abbrev pub primary_of : BagParts T B → List T
  primary_of bag = held_by bag.primary

  -- the values in its other storages
  abbrev pub overflow_of : BagParts T B → List T
  overflow_of bag = spilled_in bag.overflow

  -- all its values
  abbrev pub values_of : BagParts T B → List T
  values_of bag = primary_of bag ++ overflow_of bag

  -- only what the places of its other storages have may be another
  pub record KeepsStorages (old new : BagParts T B) : Type 0 where
    pub primary : new.primary ≡ old.primary
    pub overflow : KeepsPlaces old.overflow new.overflow

  -- there are the places of a storage more, without values, in front of the others
  pub record HasStorageMore (len : ℕ) (old new : BagParts T B) : Type 0 where
    pub primary : new.primary ≡ old.primary
    pub stack : new.overflow.stack ≡ old.overflow.stack
    pub names : List PlaceName
    pub long : length names ≡ len
    pub places : new.overflow.places ≡ map empty_place names ++ old.overflow.places

  -- its own storage and its stack are the same, whatever their places have
  pub record HasSameCells (old new : BagParts T B) : Type 0 where
    pub storage : new.primary.storage ≡ old.primary.storage
    pub stack : new.overflow.stack ≡ old.overflow.stack

  -- a value more lies in the bag itself, which had room
  pub record PushesInside (len : ℕ) (value : T) (old new : BagParts T B) : Type 0 where
    pub room : length (primary_of old) < len
    pub more : HasOneMore value (primary_of old) (primary_of new)
    pub others : new.overflow ≡ old.overflow

  -- a value more lies in its other storages, since it had no room itself
  pub record PushesBehind (len : ℕ) (value : T) (old new : BagParts T B) : Type 0 where
    pub full : length (primary_of old) ≡ len
    pub inside : new.primary ≡ old.primary
    pub more : HasOneMore value (overflow_of old) (overflow_of new)

  -- a value less lies in its other storages
  pub record PopsBehind (value : T) (old new : BagParts T B) : Type 0 where
    pub inside : new.primary ≡ old.primary
    pub less : HasOneMore value (overflow_of new) (overflow_of old)

  -- a value less lies in the bag itself, since none lies in its other storages
  pub record PopsInside (value : T) (old new : BagParts T B) : Type 0 where
    pub none : overflow_of old ≡ []
    pub less : HasOneMore value (primary_of new) (primary_of old)
    pub others : new.overflow ≡ old.overflow

  -- its cells are of these
  pub record IsOfCells (home : GhostName) (bag : BagParts T B) : Type 0 where
    pub primary : bag.primary.storage.home ≡ home
    pub overflow : home_in bag.overflow.stack ≡ home

  -- the bag is in the world: its storages are on the entries of its stack, and none is without a value
  pub record IsBag (shown : B → Option StorageName) (len : ℕ) (w : World (LinkedEntry B)) (bag : BagParts T B) : Type 0 where
    pub entries : List (Entry (LinkedEntry B))
    pub lies : LiesOn shown len w entries bag.overflow
    pub used : AreEmpty len bag.overflow.places → entries ≡ []

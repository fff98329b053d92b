-- The values that lie in a bag itself
use Rattle.std.specs.Prelude.{ℕ, ◌≡◌, List, length}
use Rattle.sdd_bag.specs.Storage.{KeptPlace, names_of, values_in}
use Rattle.sdd_bag.specs.Storages.{StorageName}

-- a bag's own storage, and what is known of its places
pub record PrimaryParts (T : Type 0) : Type 0 where
  pub storage : StorageName
  pub places : List (KeptPlace T)

-- it has just the keys of the storage's places, which are so many
pub record HasItsKeys {T : Type 0} (len : ℕ) (p : PrimaryParts T) : Type 0 where
  pub keys : names_of p.places ≡ p.storage.places
  pub long : length p.places ≡ len

abbrev pub held_by : {T : Type 0} → PrimaryParts T → List T
held_by p = values_in p.places

-- What clauses see of a storage
use Rattle.std.specs.Prelude.{ℕ, List, [], ◌∷◌, Option, None, Some}
use Rattle.sdd_bag.specs.KeyedPlaces.{PlaceName}
use Rattle.sdd_rights.specs.Units.{GhostName}
use Rattle.sdd_world_model.specs.OwnerOrCell.{OwnerOrCell, atomic_shared}

-- a storage: its places, in order, and the cell that is its own
pub record StorageName : Type 0 where
  pub places : List PlaceName
  pub cell : ℕ
  pub home : GhostName

-- it holds its cell; the values in its places are with whoever has the keys
abbrev pub holdings_of : StorageName → List OwnerOrCell
holdings_of s = atomic_shared s.cell s.home ∷ []

-- the places of a storage, if one is shown
abbrev pub places_shown : Option StorageName → List PlaceName
places_shown None = []
places_shown (Some s) = s.places

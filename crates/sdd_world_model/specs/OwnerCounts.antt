-- Where an item's owners are: in a cell, in a value, or outside
use Rattle.std.specs.Prelude.{ℕ, ◌+◌, ◌≡◌, ◌==◌, Bool, false, max, List, Option, None, Some, sum_by, count_by}
use Rattle.sdd_participants.specs.declared.standing.Standing.{Standing}
use Rattle.sdd_participants.specs.declared.standing.Standing.TheVariants.{Owned, Raw, Shared, Retired, Private as privately}
use Rattle.sdd_participants.specs.declared.standing.CellContents.{CellContents}
use Rattle.sdd_world_model.specs.OwnerOrCell.{OwnerOrCell, owned, shared, atomic_owned, atomic_shared, atomic_raw}
use Rattle.sdd_world_model.specs.World.{World, standing_at}
use Rattle.sdd_world_model.specs.WorldChanges.{held_in}

-- how many owners have to be given up until the item waits: all that it has, and one at least of an item that stands shared
abbrev pub owner_count : Option Standing → ℕ
owner_count None = 0
owner_count (Some Owned) = 1
owner_count (Some Raw) = 0
owner_count (Some (Shared n)) = max 1 n
owner_count (Some Retired) = 0
owner_count (Some (privately c)) = 0

-- one thing that a value holds is an owner of the slot's item
abbrev pub is_owner_of : ℕ → OwnerOrCell → Bool
is_owner_of k (owned j home) = j == k
is_owner_of k (shared j home) = j == k
is_owner_of k (atomic_owned c home) = false
is_owner_of k (atomic_shared c home) = false
is_owner_of k (atomic_raw c home) = false

-- what a cell holds is the slot's item
abbrev pub is_of : ℕ → Option ℕ → Bool
is_of k None = false
is_of k (Some j) = j == k

-- the cell holds an owner of the slot's item
abbrev pub holds_slot : ℕ → Option CellContents → Bool
holds_slot k cell = is_of k (held_in cell)

module _ {T : Type 0} (holds : T → List OwnerOrCell) where
  -- how many owners of the slot's item a value holds, if one is there
  abbrev pub times_held : ℕ → Option T → ℕ
  times_held k None = 0
  times_held k (Some value) = count_by (is_owner_of k) (holds value)

  -- how many owners of the slot's item are in cells and in values
  abbrev pub inner_owners : World T → ℕ → ℕ
  inner_owners w k = count_by (holds_slot k) w.cells + sum_by (times_held k) w.values

  -- each item has the owners that cells and values hold, and so many outside
  abbrev pub IsAccounted : (ℕ → ℕ) → World T → Type 0
  IsAccounted outside w = (k : ℕ) → owner_count (standing_at w k) ≡ outside k + inner_owners w k

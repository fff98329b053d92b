-- What a value holds of a world: its owners and its cells, by number
use Rattle.std.specs.Prelude.{ℕ, List, [], ◌∷◌, ◌≡◌, Option, None, Some, slice_index_or}
use Rattle.sdd_rights.specs.Units as units

-- where the slots, the cells and the readers of a world or domain are numbered: no two have the same home
pub record SpaceId : Type 0 where
  pub slots : units.GhostName
  pub cells : units.GhostName
  pub readers : units.GhostName

-- one owner or cell: its number, and where that is numbered
pub data OwnerOrCell : Type 0 where
  owned : (slot : ℕ) (home : units.GhostName) → OwnerOrCell
  shared : (slot : ℕ) (home : units.GhostName) → OwnerOrCell
  atomic_owned : (cell : ℕ) (home : units.GhostName) → OwnerOrCell
  atomic_shared : (cell : ℕ) (home : units.GhostName) → OwnerOrCell
  atomic_raw : (cell : ℕ) (home : units.GhostName) → OwnerOrCell

-- it is of this home
abbrev pub IsOf : SpaceId → OwnerOrCell → Type 0
IsOf home (owned slot h) = h ≡ home.slots
IsOf home (shared slot h) = h ≡ home.slots
IsOf home (atomic_owned cell h) = h ≡ home.cells
IsOf home (atomic_shared cell h) = h ≡ home.cells
IsOf home (atomic_raw cell h) = h ≡ home.cells

-- each of them is
abbrev pub AreOf : SpaceId → List OwnerOrCell → Type 0
AreOf home [] = Unit {0}
AreOf home (h ∷ hs) = IsOf home h × AreOf home hs

-- what the value in a slot holds is of this home
abbrev pub ValueIsOf : {T : Type 0} → (T → List OwnerOrCell) → SpaceId → Option T → Type 0
ValueIsOf holds home None = Unit {0}
ValueIsOf holds home (Some value) = AreOf home (holds value)

abbrev pub ValuesAreOf : {T : Type 0} → (T → List OwnerOrCell) → SpaceId → List (Option T) → Type 0
ValuesAreOf holds home values = (k : ℕ) → ValueIsOf holds home (slice_index_or values k None)

-- How much of a world is out of its hands
use Rattle.std.specs.Prelude.{ℕ, ◌+◌, ◌<◌, ◌≡◌, ◌≤◌, Bool, true, false, List, [], ◌∷◌, Option, None, Some, is_some, IsSome, IsTrue, count_by, length}
use Rattle.sdd_participants.specs.Slab.{IsEmptyAt, IsFull, entry_at}
use Rattle.sdd_world_model.specs.WorldInvariant.{taken}
use Rattle.sdd_participants.specs.declared.standing.Standing.{Standing}
use Rattle.sdd_participants.specs.declared.standing.Standing.TheVariants.{Owned, Raw, Shared, Retired, Private}
use Rattle.sdd_participants.specs.declared.standing.CellContents.{CellContents}
use Rattle.sdd_participants.specs.declared.standing.RawCellContents.{RawCellContents}
use Rattle.sdd_world_model.specs.OwnerOrCell.{OwnerOrCell, owned, shared, atomic_owned, atomic_shared, atomic_raw}
use Rattle.sdd_world_model.specs.World.{World, HasPlace, standing_at, value_at}
use Rattle.sdd_world_model.specs.Collecting.{collected, collector_closed}
use Rattle.sdd_world_model.specs.WorldChanges.{made, made_shared, with_standing, with_value, vacated, dropped, retired, deferred, nulled, with_cell, with_pointer, without_cell, cell_closed, opened, given, given_all, ended}

-- the slot's item has an owner, or is out as raw
abbrev pub is_out : Option Standing → Bool
is_out None = false
is_out (Some Owned) = true
is_out (Some Raw) = true
is_out (Some (Shared owners)) = true
is_out (Some Retired) = false
is_out (Some (Private collector)) = false

-- how many slots and cells are out, whoever has them: a caller, or a value
abbrev pub out : {T : Type 0} → World T → ℕ
out w = count_by is_out w.standings + count_by is_some w.cells

-- values of this type hold no owner and no cell
abbrev pub HoldsNothing : {T : Type 0} → (T → List OwnerOrCell) → Type 0
HoldsNothing {T} holds = (value : T) → holds value ≡ []

module _ {T : Type 0} where
  -- a cell that is taken and holds nothing
  abbrev pub IsNullCell : World T → ℕ → Type 0
  IsNullCell w c = (cell : CellContents) × (entry_at w.cells c ≡ Some cell) × (cell.held ≡ None)

  -- what a value holds is out, and a shared item with no other owner
  abbrev pub IsOut : World T → OwnerOrCell → Type 0
  IsOut w (owned k home) = standing_at w k ≡ Some Owned
  IsOut w (shared k home) = standing_at w k ≡ Some (Shared 1)
  IsOut w (atomic_owned c home) = IsNullCell w c
  IsOut w (atomic_shared c home) = IsNullCell w c
  IsOut w (atomic_raw c home) = IsNullCell w c

  -- each is, when p is given it after those before it
  abbrev pub AreOut : World T → ℕ → List OwnerOrCell → Type 0
  AreOut w p [] = Unit {0}
  AreOut w p (h ∷ hs) = IsOut w h × AreOut (given w p h) p hs

-- what puts something out, and what takes it back
pub record OutLaws {T : Type 0} (holds : T → List OwnerOrCell) (w : World T) : Type 0 where
  pub making : (k : ℕ) (value : T) → IsEmptyAt w.standings k → out (made w k value) ≡ out w + 1
  pub making_shared : (k : ℕ) (value : T) → IsEmptyAt w.standings k → out (made_shared w k value) ≡ out w + 1
  -- one owner more or fewer, of several
  pub sharing : (k n m : ℕ) → standing_at w k ≡ Some (Shared n) → out (with_standing w k (Shared m)) ≡ out w
  -- an item that is out otherwise, as owned or as raw
  pub restanding : (k : ℕ) (s : Standing) → IsTrue (is_out (standing_at w k)) → IsTrue (is_out (Some s)) → out (with_standing w k s) ≡ out w
  pub retiring : (p k : ℕ) → IsTrue (is_out (standing_at w k)) → out (retired w p k) + 1 ≡ out w
  pub collecting : (p c k : ℕ) → IsTrue (is_out (standing_at w k)) → out (collected w p c k) + 1 ≡ out w
  -- a collector's close takes its cell back, and puts nothing out
  pub closing_collector : (p c : ℕ) → IsNullCell w c → out (collector_closed holds w p c) + 1 ≤ out w
  -- and nothing but the cell is taken back, where values hold nothing
  pub closing_collector_plain : HoldsNothing holds → (p c : ℕ) → IsNullCell w c → out (collector_closed holds w p c) + 1 ≡ out w
  pub deferring : (p j : ℕ) → out (deferred w p j) ≡ out w
  pub nulling : (c : ℕ) → IsEmptyAt w.cells c → out (nulled w c) ≡ out w + 1
  pub filling : (c : ℕ) (cell : CellContents) → IsSome (entry_at w.cells c) → out (with_cell w c cell) ≡ out w
  pub repointing : (c : ℕ) (pointer : RawCellContents) → out (with_pointer w c pointer) ≡ out w
  pub freeing : (c : ℕ) → IsSome (entry_at w.cells c) → out (without_cell w c) + 1 ≡ out w
  pub closing : (p c : ℕ) → IsNullCell w c → out (cell_closed w p c) + 1 ≡ out w
  -- what a value gives up takes away what it holds
  pub giving : (p : ℕ) (hs : List OwnerOrCell) → AreOut w p hs → out (given_all w p hs) + length hs ≡ out w
  -- an item that is dropped in its place is one, and what its value held more
  pub dropping : (p k : ℕ) (value : T) → IsTrue (is_out (standing_at w k)) → value_at w k ≡ Some value → AreOut (vacated w k) p (holds value) →
      out (dropped holds w p k) + length (holds value) + 1 ≡ out w
  pub editing : (k : ℕ) (value : T) → out (with_value w k value) ≡ out w
  pub ending : (p : ℕ) → out (ended w p) ≡ out w
  -- no opening puts anything out
  pub opening : (p : ℕ) → HasPlace w p → out (opened holds w p) ≤ out w
  -- and it leaves out what was, where values hold nothing
  pub opening_plain : HoldsNothing holds → (p : ℕ) → HasPlace w p → out (opened holds w p) ≡ out w
  -- where fewer slots are taken than there are, one is free
  pub room : taken w < length w.standings → ¬ (IsFull w.standings)

-- The cells of a world
use Rattle.std.specs.Prelude.{ℕ, ◌≡◌, IfSome, List, length, Option, None, Some, option_map, slice_index_or, slice_set}
use Rattle.sdd_core.specs.declared.tag.Tag.{Tag}
use Rattle.sdd_core.specs.declared.tag.Tag.TheVariants as tag
use Rattle.sdd_rights.specs.Units.{GhostName}
use Rattle.sdd_rights.specs.Right.{number_of, home_of, kind_of}
use Rattle.sdd_rights.specs.declared.right.Right.{Right}
use Rattle.sdd_rights.specs.RightsAuthority.{Kept, whole, granted}
use Rattle.sdd_rights.specs.declared.right.StandingKind.{StandingKind}
use Rattle.sdd_rights.specs.declared.right.StandingKind.TheVariants as kind
use Rattle.sdd_participants.specs.Slab.{Entries, entry_at, with_entry, without_entry}
use Rattle.sdd_participants.specs.declared.standing.CellContents.{CellContents}
use Rattle.sdd_participants.specs.declared.standing.RawCellContents.{RawCellContents}

-- what names nothing, without a tag
abbrev pub null_pointer : RawCellContents
null_pointer = record { named = None; tag = tag.None }

-- the home whose numbers the cells are, what each one that is taken holds, where the slots are numbered, and of each number what the raw cell that has it
-- points to, or the last one that had it
pub record Cells : Type 0 where
  pub home : GhostName
  pub cells : Entries CellContents
  pub slots : GhostName
  pub pointers : List RawCellContents

-- the slot whose owner has the right
abbrev pub slot_held : Option Right → Option ℕ
slot_held right = option_map number_of right

-- a cell with this owner, and this tag
abbrev pub cell_with : Option Right → Tag → CellContents
cell_with right t = record { held = slot_held right; tag = t }

-- a cell holds this
abbrev pub with_cell : Cells → ℕ → CellContents → Cells
with_cell cells k cell = record cells { cells = with_entry cells.cells k cell }

-- the cell is free
abbrev pub without_cell : Cells → ℕ → Cells
without_cell cells k = record cells { cells = without_entry cells.cells k }

-- a raw cell points to this
abbrev pub with_pointer : Cells → ℕ → RawCellContents → Cells
with_pointer cells k pointer = record cells { pointers = slice_set cells.pointers k pointer }

-- a raw cell holds nothing
abbrev pub null_cell : CellContents
null_cell = record { held = None; tag = tag.None }

-- if there is one, it is the right of an owner of this kind to one of the slots
abbrev pub MayHold : GhostName → StandingKind → Option Right → Type 0
MayHold slots k right = IfSome right (λ r. (home_of r ≡ slots) × (kind_of r ≡ k))

-- what is kept of a cell's number, and the right that the cell keeps, fit what the cell holds: all in it is of the cell's kind
abbrev pub CellMatches : GhostName → Kept → Option CellContents → Option Right → Type 0
CellMatches slots kept None right = (kept ≡ whole kind.Free) × (right ≡ None)
CellMatches slots kept (Some cell) right = (kept ≡ granted kept.kind) × (slot_held right ≡ cell.held) × MayHold slots kept.kind right

abbrev pub right_at : List (Option Right) → ℕ → Option Right
right_at rights k = slice_index_or rights k None

-- each number of the home is kept as its cell stands, with the right to what it holds
pub record CellsMatch (home slots : GhostName) (kept : List Kept) (cells : Entries CellContents) (rights : List (Option Right)) : Type 0 where
  pub sized : length cells ≡ home.size
  pub kept_rowed : length kept ≡ home.size
  pub rowed : length rights ≡ home.size
  pub each : (k : ℕ) → CellMatches slots (slice_index_or kept k (whole kind.Free)) (entry_at cells k) (right_at rights k)

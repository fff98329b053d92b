-- What an owner and a cell name
use Rattle.std.specs.Prelude.{ℕ, ◌≡◌, IfSome, Option, option_map, Some}
use Rattle.sdd_core.specs.declared.tag.Tag.{Tag}
use Rattle.sdd_rights.specs.Units as units
use Rattle.sdd_rights.specs.Right.{number_of, home_of}
use Rattle.sdd_rights.specs.declared.right.Right.{Right}
use Rattle.sdd_rights.specs.declared.right.StandingKind.{StandingKind}
use Rattle.sdd_rights.specs.declared.right.StandingKind.TheVariants as kind
use Rattle.sdd_space.specs.declared.ownership.Ownership.{Ghosts}
use Rattle.sdd_space.specs.declared.owner.Owner.{Owner}
use Rattle.sdd_space.specs.declared.atomic_cell.AtomicCell.{AtomicCell}
use Rattle.sdd_participants.specs.declared.standing.CellContents.{CellContents}
use Rattle.sdd_participants.specs.declared.standing.Standing.{Standing}
use Rattle.sdd_participants.specs.declared.standing.Standing.TheVariants as standing
use Rattle.sdd_world_model.specs.Slots.{IsSharedBy}

module _ {K T : Type 0} {k : Ghosts K} where
  abbrev pub right_of : Owner K T k → Right
  right_of o = o.right.right

  -- the slot of an owner's item, and where slots are numbered
  abbrev pub slot_of : Owner K T k → ℕ
  slot_of o = number_of (right_of o)

  abbrev pub slots_home : Owner K T k → units.GhostName
  slots_home o = home_of (right_of o)

  -- an owner, if there is one, is of these slots
  abbrev pub IsOfSlots : units.GhostName → Option (Owner K T k) → Type 0
  IsOfSlots home o = IfSome o (λ owner. slots_home owner ≡ home)

  -- a cell with this owner, and this tag
  abbrev pub cell_with : Option (Owner K T k) → Tag → CellContents
  cell_with o tag = record { held = option_map slot_of o; tag = tag }

  abbrev pub cell_right : AtomicCell K T k → Right
  cell_right c = c.right.right

  -- the number of a cell, and where cells are numbered
  abbrev pub cell_of : AtomicCell K T k → ℕ
  cell_of c = number_of (cell_right c)

  abbrev pub cells_home : AtomicCell K T k → units.GhostName
  cells_home c = home_of (cell_right c)

-- how an item stands that an owner with a right of this kind has; of a kind that no owner's right is of, nothing is said
abbrev pub StandsAs : StandingKind → Option Standing → Type 0
StandsAs kind.Free s = Unit {0}
StandsAs kind.Owned s = s ≡ Some standing.Owned
StandsAs kind.Raw s = Unit {0}
StandsAs kind.Shared s = (owners : ℕ) × IsSharedBy owners s
StandsAs kind.Retired s = Unit {0}

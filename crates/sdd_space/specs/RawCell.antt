-- What a raw cell names
use Rattle.std.specs.Prelude.{ℕ}
use Rattle.sdd_rights.specs.Units as units
use Rattle.sdd_rights.specs.Right.{raw_number_of, raw_home_of}
use Rattle.sdd_space.specs.declared.atomic_raw.AtomicRaw.{AtomicRaw}
use Rattle.sdd_world_model.specs.OwnerOrCell.{OwnerOrCell, atomic_raw}

module _ {T : Type 0} where
  -- the number of a raw cell, and where cells are numbered
  abbrev pub cell_of : AtomicRaw T → ℕ
  cell_of c = raw_number_of c.right

  abbrev pub cells_home : AtomicRaw T → units.GhostName
  cells_home c = raw_home_of c.right

  abbrev pub cell_holding : AtomicRaw T → OwnerOrCell
  cell_holding c = atomic_raw (cell_of c) (cells_home c)

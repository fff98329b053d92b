-- Whose guard it is
use Rattle.std.specs.Prelude.{ℕ}
use Rattle.sdd_rights.specs.Units as units
use Rattle.sdd_space.specs.declared.guard.Guard.{Guard}

-- a reader of values: its number, and where that is numbered. Each participant is another reader
pub record ReaderId : Type 0 where
  pub home : units.GhostName
  pub number : ℕ

-- the reader whose guard it is
abbrev pub reader_of : Guard → ReaderId
reader_of g = record { home = g.section.home; number = g.section.number }

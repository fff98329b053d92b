-- What a collector names
use Rattle.std.specs.Prelude.{ℕ}
use Rattle.sdd_rights.specs.Units as units
use Rattle.sdd_rights.specs.Right.{raw_number_of, raw_home_of}
use Rattle.sdd_space.specs.declared.private_collector.PrivateCollector.{PrivateCollector}

module _ {T : Type 0} where
  -- the number of a collector, which is that of its cell, and where cells are numbered
  abbrev pub collector_of : PrivateCollector T → ℕ
  collector_of c = raw_number_of c.right

  abbrev pub cells_home : PrivateCollector T → units.GhostName
  cells_home c = raw_home_of c.right

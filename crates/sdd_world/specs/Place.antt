-- The number of a participant
use Rattle.std.specs.Prelude.{ℕ}
use Rattle.sdd_world.specs.declared.world.Place.{Place}

abbrev pub index_of : Place → ℕ
index_of p = p.index

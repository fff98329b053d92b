-- The link of a station
use Rattle.std.specs.Prelude.{ℕ, List, [], ◌∷◌}
use Rattle.sdd_rights.specs.Units as units
use Rattle.sdd_world_model.specs.OwnerOrCell.{OwnerOrCell}
use Rattle.sdd_space.specs.Shared.{cell_of, cells_home, cell_holding}
use Rattle.sdd_world_tests.specs.declared.lists.station.Station.{Station, out-Station}

abbrev pub link_of : Station → ℕ
link_of s = cell_of (out-Station s).next

abbrev pub link_home_of : Station → units.GhostName
link_home_of s = cells_home (out-Station s).next

-- it holds its link and nothing else
abbrev pub holdings_of : Station → List OwnerOrCell
holdings_of s = cell_holding (out-Station s).next ∷ []

-- Cells that threads share
use Rattle.std.specs.Prelude.{◌≡◌}
use Rattle.sdd_rights.specs.Units as units
use Rattle.sdd_space.specs.Owned as owned
use Rattle.sdd_space.specs.RawCell as raw_cell
use Rattle.sdd_space.specs.Shared as shared
use Rattle.sdd_domain_tests.specs.declared.few.FewCells.{FewCells}

-- they are numbered there
pub record AreFewOf {T : Type 0} (home : units.GhostName) (cells : FewCells T) : Type 0 where
  pub first : shared.cells_home cells.first ≡ home
  pub second : shared.cells_home cells.second ≡ home
  pub third : owned.cells_home cells.third ≡ home
  pub fourth : owned.cells_home cells.fourth ≡ home
  pub fifth : raw_cell.cells_home cells.fifth ≡ home

-- What a value holds
use Rattle.std.specs.Prelude.{List, [], ◌∷◌}
use Rattle.sdd_world_model.specs.OwnerOrCell.{OwnerOrCell}
use Rattle.sdd_space.specs.Owned as owned
use Rattle.sdd_space.specs.Shared as shared
use Rattle.sdd_space.specs.RawCell as raw_cell
use Rattle.sdd_world_tests.specs.declared.cells.value.Value.{Value, out-Value}
use Rattle.sdd_world_tests.specs.declared.cells.value.Value.TheOpen.{Number, Of, Beside, Each}

-- a number holds nothing, any other its owners and cells, in order
abbrev pub holdings_of : Value → List OwnerOrCell
holdings_of v = elim (out-Value v) [
  | Number n ↦ []
  | Of owner ↦ owned.holding_of owner ∷ []
  | Beside owner ↦ shared.holding_of owner ∷ []
  | Each a b c d e ↦ owned.holding_of a ∷ shared.holding_of b ∷ owned.cell_holding c ∷ shared.cell_holding d ∷ raw_cell.cell_holding e ∷ []
]

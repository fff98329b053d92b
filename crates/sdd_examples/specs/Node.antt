-- What a node holds
use Rattle.std.specs.Prelude.{List, [], ◌∷◌}
use Rattle.sdd_world_model.specs.OwnerOrCell.{OwnerOrCell}
use Rattle.sdd_space.specs.Shared.{cell_holding}
use Rattle.sdd_examples.specs.declared.nodes.Node.{Node, out-Node}

-- its cell
abbrev pub holdings_of : Node → List OwnerOrCell
holdings_of n = cell_holding (out-Node n).next ∷ []

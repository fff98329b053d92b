-- What a value of these tests holds
use Rattle.std.specs.Prelude.{List, [], ◌∷◌}
use Rattle.sdd_world_model.specs.OwnerOrCell.{OwnerOrCell}
use Rattle.sdd_space.specs.Owned as owned
use Rattle.sdd_space.specs.Shared as shared
use Rattle.sdd_domain_tests.specs.declared.node.Node.{Node, out-Node}
use Rattle.sdd_domain_tests.specs.declared.node.Node.TheOpen.{Last, Before, Beside}

-- the last one nothing, any other an owner of the next
abbrev pub holdings_of : Node → List OwnerOrCell
holdings_of node = elim (out-Node node) [
  | Last number ↦ []
  | Before number next ↦ owned.holding_of next ∷ []
  | Beside number next ↦ shared.holding_of next ∷ []
]

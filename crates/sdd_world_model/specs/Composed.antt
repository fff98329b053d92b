-- What values hold that are made of values
use Rattle.std.specs.Prelude.{List, [], Option, None, Some}
use Rattle.sdd_world_model.specs.OwnerOrCell.{OwnerOrCell}

-- what the value holds, if there is one
abbrev pub held_if_some : {T : Type 0} → (T → List OwnerOrCell) → Option T → List OwnerOrCell
held_if_some holds None = []
held_if_some holds (Some value) = holds value

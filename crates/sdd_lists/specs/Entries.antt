-- What an entry holds
use Rattle.std.specs.Prelude.{ℕ, List, [], ◌∷◌, ◌++◌}
use Rattle.sdd_world_model.specs.OwnerOrCell.{OwnerOrCell}
use Rattle.sdd_space.specs.Shared.{cell_of, cells_home, cell_holding}
use Rattle.sdd_rights.specs.Units as units
use Rattle.sdd_lists.specs.declared.linked_entry.LinkedEntry.{LinkedEntry, out-LinkedEntry, roll-LinkedEntry}

module _ {T : Type 0} where
  abbrev pub link_of : LinkedEntry T → ℕ
  link_of e = cell_of (out-LinkedEntry T e).next

  abbrev pub link_home_of : LinkedEntry T → units.GhostName
  link_home_of e = cells_home (out-LinkedEntry T e).next

  abbrev pub value_of : LinkedEntry T → T
  value_of e = (out-LinkedEntry T e).instance

  -- the entry with another value
  abbrev pub with_value : LinkedEntry T → T → LinkedEntry T
  with_value e value = roll-LinkedEntry T (record (out-LinkedEntry T e) { instance = value })

  abbrev pub link_part : LinkedEntry T → List OwnerOrCell
  link_part e = cell_holding (out-LinkedEntry T e).next ∷ []

  -- what its value holds, and its link
  abbrev pub holdings_of : (T → List OwnerOrCell) → LinkedEntry T → List OwnerOrCell
  holdings_of holds e = holds (value_of e) ++ link_part e

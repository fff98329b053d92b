-- What the value of a script's item is
use Rattle.std.specs.Prelude.{ℕ, ◌≡◌, List, [], ◌∷◌, ◌++◌, None, Option, Some}
use Rattle.sdd_rights.specs.Units as units
use Rattle.sdd_space.specs.Owned as owned
use Rattle.sdd_space.specs.Shared as shared
use Rattle.sdd_world_model.specs.OwnerOrCell.{OwnerOrCell}
use Rattle.sdd_bag.specs.Storages as storages
use Rattle.sdd_bag.specs.Storages.{StorageName}
use Rattle.sdd_lists.specs.Entries as entries
use Rattle.sdd_lists.specs.declared.linked_entry.LinkedEntry.{LinkedEntry, out-LinkedEntry}
use Rattle.sdd_script_model.specs.declared.val.Body.{Body}
use Rattle.sdd_script_model.specs.declared.val.Body.TheVariants.{Number, Owned, Shared, Storage}

abbrev pub Val : Type 0
Val = LinkedEntry Body

abbrev pub body_of : Val → Body
body_of v = entries.value_of v

abbrev pub link_of : Val → ℕ
link_of v = entries.link_of v

abbrev pub link_home : Val → units.GhostName
link_home v = entries.link_home_of v

-- what a body holds: the owner that it is, or a storage's cell
abbrev pub owner_in : Body → List OwnerOrCell
owner_in (Number n) = []
owner_in (Owned o) = owned.holding_of o ∷ []
owner_in (Shared o) = shared.holding_of o ∷ []
owner_in (Storage s) = storages.holdings_of s

-- the storage of a bag that a body is, if it is one
abbrev pub storage_in : Body → Option StorageName
storage_in (Number n) = None
storage_in (Owned o) = None
storage_in (Shared o) = None
storage_in (Storage s) = Some s

-- with another number; an owner and a storage stay
abbrev pub renumbered : Body → ℕ → Body
renumbered (Number m) n = Number n
renumbered (Owned o) n = Owned o
renumbered (Shared o) n = Shared o
renumbered (Storage s) n = Storage s

-- a value has this number in place of the one that it had, and the same link
pub record Renumbers (was : Val) (number : ℕ) (now : Val) : Type 0 where
  pub body : body_of now ≡ renumbered (body_of was) number
  pub link : link_of now ≡ link_of was
  pub home : link_home now ≡ link_home was

abbrev pub link_holding : Val → OwnerOrCell
link_holding v = shared.cell_holding (out-LinkedEntry Body v).next

-- it holds what its body does, and its link
abbrev pub holdings_of : Val → List OwnerOrCell
holdings_of v = owner_in (body_of v) ++ link_holding v ∷ []

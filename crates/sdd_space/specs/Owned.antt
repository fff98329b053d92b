-- What the one owner of an item, and a cell of such an owner, name
use Rattle.sdd_rights.specs.declared.right.StandingKind.TheVariants as kind
use Rattle.sdd_space.specs.declared.ownership.UniqueOwnership.{UniqueOwnership}
use Rattle.sdd_space.specs.declared.owner.Owner.{Owner}
use Rattle.sdd_space.specs.declared.atomic_cell.AtomicCell.{AtomicCell}
pub use Rattle.sdd_space.specs.Owner.{right_of, slot_of, slots_home, IsOfSlots, cell_with, cell_right, cell_of, cells_home}
use Rattle.sdd_world_model.specs.OwnerOrCell.{OwnerOrCell, owned, atomic_owned}

abbrev pub Owned : Type 0 → Type 0
Owned T = Owner UniqueOwnership T (record { kind = kind.Owned })

abbrev pub AtomicOwned : Type 0 → Type 0
AtomicOwned T = AtomicCell UniqueOwnership T (record { kind = kind.Owned })

module _ {T : Type 0} where
  abbrev pub holding_of : Owned T → OwnerOrCell
  holding_of o = owned (slot_of o) (slots_home o)

  abbrev pub cell_holding : AtomicOwned T → OwnerOrCell
  cell_holding c = atomic_owned (cell_of c) (cells_home c)

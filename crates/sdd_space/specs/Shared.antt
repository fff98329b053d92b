-- What one of several owners of an item, and a cell of such an owner, name
use Rattle.sdd_rights.specs.declared.right.StandingKind.TheVariants as kind
use Rattle.sdd_space.specs.declared.ownership.SharedOwnership.{SharedOwnership}
use Rattle.sdd_space.specs.declared.owner.Owner.{Owner}
use Rattle.sdd_space.specs.declared.atomic_cell.AtomicCell.{AtomicCell}
pub use Rattle.sdd_space.specs.Owner.{right_of, slot_of, slots_home, IsOfSlots, cell_with, cell_right, cell_of, cells_home}
use Rattle.sdd_world_model.specs.OwnerOrCell.{OwnerOrCell, shared, atomic_shared}

abbrev pub Shared : Type 0 → Type 0
Shared T = Owner SharedOwnership T (record { kind = kind.Shared })

abbrev pub AtomicShared : Type 0 → Type 0
AtomicShared T = AtomicCell SharedOwnership T (record { kind = kind.Shared })

module _ {T : Type 0} where
  abbrev pub holding_of : Shared T → OwnerOrCell
  holding_of o = shared (slot_of o) (slots_home o)

  abbrev pub cell_holding : AtomicShared T → OwnerOrCell
  cell_holding c = atomic_shared (cell_of c) (cells_home c)

-- What owners and cells of a script are
use Rattle.std.specs.Prelude.{ℕ, Option}
use Rattle.std.specs.Option.{option_map}
use Rattle.sdd_lists.specs.Stack as stacks
use Rattle.sdd_lists.specs.declared.queue.Queue.{Queue}
use Rattle.sdd_lists.specs.declared.stack.Stack.{Stack}
use Rattle.sdd_script_model.specs.declared.val.Body.{Body}
use Rattle.sdd_world_model.specs.OwnerOrCell.{OwnerOrCell}
use Rattle.sdd_script_model.specs.Held.{holding_first}
use Rattle.sdd_script_model.specs.declared.owner_kind.OwnerKind.{OwnerKind}
use Rattle.sdd_interpreter.specs.declared.holding.AnyOwner.{AnyOwner}
use Rattle.sdd_interpreter.specs.declared.holding.AnyOwner.TheVariants.{Sole, Share}
use Rattle.sdd_interpreter.specs.declared.holding.AnyCell.{AnyCell}
use Rattle.sdd_interpreter.specs.declared.holding.CellOwner.{CellOwner}
use Rattle.sdd_rights.specs.Units as units
use Rattle.sdd_space.specs.declared.private_collector.PrivateCollector.{PrivateCollector}
use Rattle.sdd_space.specs.Collector.{collector_of, cells_home as collectors_home}
use Rattle.sdd_script_model.specs.Val.{Val}
use Rattle.sdd_world_model.specs.OwnerOrCell as holding
use Rattle.sdd_space.specs.Owned as owned
use Rattle.sdd_space.specs.Shared as shared
use Rattle.sdd_script_model.specs.declared.owner_kind.OwnerKind.TheVariants as ownership
use Rattle.sdd_interpreter.specs.declared.holding.AnyCell.TheVariants as cell
use Rattle.sdd_interpreter.specs.declared.holding.CellOwner.TheVariants as filling

abbrev pub owner_holding : AnyOwner → OwnerOrCell
owner_holding (Sole o) = owned.holding_of o
owner_holding (Share o) = shared.holding_of o

abbrev pub cell_holding : AnyCell → OwnerOrCell
cell_holding (cell.Sole c) = owned.cell_holding c
cell_holding (cell.Share c) = shared.cell_holding c

-- a collector, by its cell
abbrev pub collector_holding : PrivateCollector Val → OwnerOrCell
collector_holding k = holding.atomic_raw (collector_of k) (collectors_home k)

-- which owners a cell is for, and its number
abbrev pub cell_kind : AnyCell → OwnerKind
cell_kind (cell.Sole c) = ownership.Sole
cell_kind (cell.Share c) = ownership.Shared

abbrev pub cell_number : AnyCell → ℕ
cell_number (cell.Sole c) = owned.cell_of c
cell_number (cell.Share c) = shared.cell_of c

-- a cell for such owners
abbrev pub holding_around : OwnerKind → (cell : ℕ) → units.GhostName → OwnerOrCell
holding_around ownership.Sole c home = holding.atomic_owned c home
holding_around ownership.Shared c home = holding.atomic_shared c home

-- what a cell is filled with, and for which owners it is then
abbrev pub filling_holding : CellOwner → Option OwnerOrCell
filling_holding (filling.Sole o) = option_map owned.holding_of o
filling_holding (filling.Share o) = option_map shared.holding_of o

abbrev pub filling_kind : CellOwner → OwnerKind
filling_kind (filling.Sole o) = ownership.Sole
filling_kind (filling.Share o) = ownership.Shared

-- what comes out of a cell for such owners that held this
abbrev pub held_as : OwnerKind → Option ℕ → units.GhostName → Option OwnerOrCell
held_as kind held home = option_map (λ k. holding_first kind k home) held

-- a queue, by the cell in which its list begins
abbrev pub oldest_holding : Queue Body → OwnerOrCell
oldest_holding queue = shared.cell_holding queue.oldest

-- and by its second cell
abbrev pub newest_holding : Queue Body → OwnerOrCell
newest_holding queue = shared.cell_holding queue.newest

-- a stack, by its cell
abbrev pub stack_holding : Stack Body → OwnerOrCell
stack_holding stack = holding.atomic_shared (stacks.cell_in stack) (stacks.home_in stack)

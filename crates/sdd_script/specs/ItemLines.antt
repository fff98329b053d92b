-- The lines on open guards, on items and their owners, on items in their place and out as raw, on cells, and with collectors
use Rattle.sdd_script_model.specs.declared.owner_kind.OwnerKind.TheVariants as ownership
use Rattle.sdd_script_model.specs.declared.owner_kind.OwnerKind.{OwnerKind}
use Rattle.sdd_script_text.specs.declared.call.Value.{Value}
use Rattle.sdd_script_text.specs.declared.call.action.Action.{Action}
use Rattle.sdd_script_text.specs.Actions as call
use Rattle.sdd_script_text.specs.declared.name.GuardName.{GuardName}
use Rattle.sdd_script_text.specs.declared.name.ListName.{ListName}
use Rattle.sdd_script_text.specs.declared.name.OwnerName.{OwnerName}
use Rattle.sdd_script_text.specs.declared.name.ItemName.{ItemName}
use Rattle.sdd_script_model.specs.declared.link_change.LinkChange.{LinkChange}
use Rattle.sdd_script_model.specs.declared.link_change.LinkChange.TheVariants as change
use Rattle.sdd_interpreter.specs.declared.commands.guards.GuardUse.{GuardUse}
use Rattle.sdd_interpreter.specs.declared.commands.guards.GuardUse.TheVariants as using
use Rattle.std.specs.Prelude.{ℕ, None, Option, Some}

-- the line that uses a guard so
abbrev pub using_guard : GuardUse → GuardName → Action
using_guard using.Epoch guard = call.Epoch guard
using_guard using.Garbage guard = call.Garbage guard
using_guard using.Set guard = call.Set guard
using_guard using.Accelerate guard = call.Accelerate guard

-- the line that makes an item that is so owned
abbrev pub making : OwnerKind → Value → Action
making ownership.Sole value = call.Owned value
making ownership.Shared value = call.Shared value

-- the line that puts a number among a container's entries, and the one that takes the first out: if a number is what is asked, where one is
abbrev pub pushing : ListName → ℕ → Option ℕ → GuardName → Action
pushing l number None guard = call.Push l number guard
pushing l number (Some newest) guard = call.PushIf l number newest guard

abbrev pub popping : ListName → Option ℕ → GuardName → Action
popping l None guard = call.Pop l guard
popping l (Some first) guard = call.PopIf l first guard

-- the line that changes a link so
abbrev pub changing : LinkChange → ItemName → Action
changing change.Mark item = call.Mark item
changing change.Unmark item = call.Unmark item
changing change.Delete item = call.Delete item

-- the line that makes a cell that holds owners of this kind
abbrev pub making_cell : OwnerKind → Option OwnerName → Action
making_cell ownership.Sole x = call.CellOwned x
making_cell ownership.Shared x = call.CellShared x

-- The actions, each by a name of its own, whatever it is about
use Rattle.std.specs.Prelude.{ℕ, Bool, Option}
use Rattle.sdd_core.specs.declared.tag.Tag.{Tag as CellTag}
use Rattle.sdd_script_text.specs.declared.name.GuardName.{GuardName}
use Rattle.sdd_script_text.specs.declared.name.OwnerName.{OwnerName}
use Rattle.sdd_script_text.specs.declared.name.ItemName.{ItemName}
use Rattle.sdd_script_text.specs.declared.name.CellName.{CellName}
use Rattle.sdd_script_text.specs.declared.name.CollectorName.{CollectorName}
use Rattle.sdd_script_text.specs.declared.name.QueueName.{QueueName}
use Rattle.sdd_script_text.specs.declared.name.StackName.{StackName}
use Rattle.sdd_script_text.specs.declared.name.BagName.{BagName}
use Rattle.sdd_script_text.specs.declared.name.ListName.{ListName}
use Rattle.sdd_script_text.specs.declared.call.Value.{Value}
use Rattle.sdd_script_text.specs.declared.call.action.Action.{Action}
use Rattle.sdd_script_text.specs.declared.call.action.Action.TheVariants as on
use Rattle.sdd_script_text.specs.declared.call.action.GuardAction.TheVariants as guard
use Rattle.sdd_script_text.specs.declared.call.action.ItemAction.TheVariants as item
use Rattle.sdd_script_text.specs.declared.call.action.RawAction.TheVariants as raw
use Rattle.sdd_script_text.specs.declared.call.action.CollectorAction.TheVariants as collector
use Rattle.sdd_script_text.specs.declared.call.action.CellAction.TheVariants as cell
use Rattle.sdd_script_text.specs.declared.call.action.HeldAction.TheVariants as held
use Rattle.sdd_script_text.specs.declared.call.action.LinkAction.TheVariants as link
use Rattle.sdd_script_text.specs.declared.call.action.ContainerAction.TheVariants as container
use Rattle.sdd_script_text.specs.declared.call.action.EntryAction.TheVariants as entry
use Rattle.sdd_script_text.specs.declared.call.action.BagAction.TheVariants as bag

pattern abbrev pub Open : Action
Open = on.Open

pattern abbrev pub End : Action
End = on.End

pattern abbrev pub Epoch : GuardName → Action
Epoch g = on.Guard (guard.Epoch g)

pattern abbrev pub Garbage : GuardName → Action
Garbage g = on.Guard (guard.Garbage g)

pattern abbrev pub Set : GuardName → Action
Set g = on.Guard (guard.Set g)

pattern abbrev pub Accelerate : GuardName → Action
Accelerate g = on.Guard (guard.Accelerate g)

pattern abbrev pub Defer : GuardName → Action
Defer g = on.Guard (guard.Defer g)

pattern abbrev pub Close : GuardName → Action
Close g = on.Guard (guard.Close g)

pattern abbrev pub Owned : Value → Action
Owned value = on.Item (item.Owned value)

pattern abbrev pub Shared : Value → Action
Shared value = on.Item (item.Shared value)

pattern abbrev pub Read : OwnerName → Action
Read o = on.Item (item.Read o)

pattern abbrev pub Look : ItemName → GuardName → Action
Look i g = on.Item (item.Look i g)

pattern abbrev pub Upgrade : ItemName → GuardName → Action
Upgrade i g = on.Item (item.Upgrade i g)

pattern abbrev pub Retire : OwnerName → Action
Retire o = on.Item (item.Retire o)

pattern abbrev pub Release : OwnerName → Action
Release o = on.Item (item.Release o)

pattern abbrev pub Clone : OwnerName → Action
Clone o = on.Item (item.Clone o)

pattern abbrev pub Put : OwnerName → ℕ → Action
Put o n = on.Raw (raw.Put o n)

pattern abbrev pub Drop : OwnerName → Action
Drop o = on.Raw (raw.Drop o)

pattern abbrev pub Raw : OwnerName → Action
Raw o = on.Raw (raw.Raw o)

pattern abbrev pub Unraw : ItemName → Action
Unraw i = on.Raw (raw.Unraw i)

pattern abbrev pub See : ItemName → GuardName → Action
See i g = on.Raw (raw.See i g)

pattern abbrev pub Collector : Action
Collector = on.Collector collector.Make

pattern abbrev pub Collect : OwnerName → GuardName → CollectorName → Action
Collect o g k = on.Collector (collector.Collect o g k)

pattern abbrev pub CloseCollector : CollectorName → Action
CloseCollector k = on.Collector (collector.Close k)

pattern abbrev pub CellOwned : Option OwnerName → Action
CellOwned x = on.Cell (cell.Owned x)

pattern abbrev pub CellShared : Option OwnerName → Action
CellShared x = on.Cell (cell.Shared x)

pattern abbrev pub Load : CellName → GuardName → Action
Load c g = on.Cell (cell.Load c g)

pattern abbrev pub Tag : CellName → Action
Tag c = on.Cell (cell.Tag c)

pattern abbrev pub TagIf : CellName → CellTag → CellTag → Action
TagIf c t u = on.Cell (cell.TagIf c t u)

pattern abbrev pub CloseCell : CellName → Action
CloseCell c = on.Cell (cell.Close c)

pattern abbrev pub Swap : CellName → Option OwnerName → CellTag → Action
Swap c x t = on.Held (held.Swap c x t)

pattern abbrev pub Exchange : CellName → GuardName → Option ItemName → CellTag → Option OwnerName → CellTag → Action
Exchange c g y t x u = on.Held (held.Exchange c g y t x u)

pattern abbrev pub Into : CellName → Action
Into c = on.Held (held.Into c)

pattern abbrev pub Copy : CellName → GuardName → Action
Copy c g = on.Held (held.Copy c g)

pattern abbrev pub Share : CellName → GuardName → Action
Share c g = on.Held (held.Share c g)

pattern abbrev pub Mark : ItemName → Action
Mark i = on.Link (link.Mark i)

pattern abbrev pub Unmark : ItemName → Action
Unmark i = on.Link (link.Unmark i)

pattern abbrev pub Delete : ItemName → Action
Delete i = on.Link (link.Delete i)

pattern abbrev pub LinkTag : ItemName → Action
LinkTag i = on.Link (link.Tag i)

pattern abbrev pub Append : ItemName → OwnerName → Bool → GuardName → Action
Append i o mark g = on.Link (link.Append i o mark g)

pattern abbrev pub Next : ItemName → GuardName → Action
Next i g = on.Link (link.Next i g)

pattern abbrev pub Queue : Action
Queue = on.Container container.Queue

pattern abbrev pub Stack : Action
Stack = on.Container container.Stack

pattern abbrev pub All : StackName → GuardName → Action
All s g = on.Container (container.All s g)

pattern abbrev pub CloneList : ListName → GuardName → Action
CloneList l g = on.Container (container.Clone l g)

pattern abbrev pub CloseQueue : QueueName → Action
CloseQueue q = on.Container (container.CloseQueue q)

pattern abbrev pub CloseStack : StackName → Action
CloseStack s = on.Container (container.CloseStack s)

pattern abbrev pub Push : ListName → ℕ → GuardName → Action
Push l n g = on.Entry (entry.Push l n g)

pattern abbrev pub PushIf : ListName → ℕ → ℕ → GuardName → Action
PushIf l n m g = on.Entry (entry.PushIf l n m g)

pattern abbrev pub Pop : ListName → GuardName → Action
Pop l g = on.Entry (entry.Pop l g)

pattern abbrev pub PopIf : ListName → ℕ → GuardName → Action
PopIf l n g = on.Entry (entry.PopIf l n g)

pattern abbrev pub Peek : ListName → GuardName → Action
Peek l g = on.Entry (entry.Peek l g)

pattern abbrev pub Len : ListName → GuardName → Action
Len l g = on.Entry (entry.Len l g)

pattern abbrev pub List : ListName → GuardName → Action
List l g = on.Entry (entry.List l g)

pattern abbrev pub Bag : Action
Bag = on.Bag bag.Make

pattern abbrev pub Add : BagName → ℕ → GuardName → Action
Add b n g = on.Bag (bag.Add b n g)

pattern abbrev pub Try : BagName → ℕ → Action
Try b n = on.Bag (bag.Try b n)

pattern abbrev pub Take : BagName → GuardName → Action
Take b g = on.Bag (bag.Take b g)

pattern abbrev pub Drain : BagName → GuardName → Action
Drain b g = on.Bag (bag.Drain b g)

pattern abbrev pub LenBag : BagName → GuardName → Action
LenBag b g = on.Bag (bag.Len b g)

pattern abbrev pub CloseBag : BagName → Action
CloseBag b = on.Bag (bag.Close b)

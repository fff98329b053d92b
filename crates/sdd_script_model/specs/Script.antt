-- The meaning of a script: what its calls answer, and what they leave
use Rattle.std.specs.Prelude.{ℕ, IsTrue, ◌≡◌, ◌≢◌, ◌+◌, ◌^◌, ◌<◌, ◌≤◌, List, [], ◌∷◌, ◌++◌, Option, None, Some, IsSome, Contains, length, map, option_map, slice_set, ◌↔◌, if◌then◌else◌}
use Rattle.std.specs.List.Sorted.{IsStrictlyIncreasing}
use Rattle.sdd_core.specs.Epoch.{epoch_of}
use Rattle.sdd_core.specs.declared.tag.Tag.{Tag}
use Rattle.sdd_core.specs.declared.tag.Tag.TheVariants.{None as no_tag}
use Rattle.sdd_core.specs.declared.refused.Refused.TheVariants.{NoPlace, NoCell, NoJob, TooManyGuards, GuardOpen, TooManyOwners}
use Rattle.sdd_participants.specs.declared.waiting.LimboEntry.TheVariants.{Item, Job}
use Rattle.sdd_participants.specs.EpochState.{IsCrowded, IsVacant, CanNest, has_garbage, is_open}
use Rattle.sdd_participants.specs.Slab.{IsEmptyAt, IsFull}
use Rattle.sdd_participants.specs.declared.standing.CellContents.{CellContents}
use Rattle.sdd_participants.specs.declared.standing.Standing.TheVariants.{Owned, Raw, Shared}
use Rattle.sdd_world_model.specs.Slots.{IsSharedBy, is_waiting}
use Rattle.sdd_core.specs.declared.limits.Limits.{Limits}
use Rattle.sdd_world_model.specs.OwnerOrCell.{OwnerOrCell, owned, shared, atomic_owned, atomic_shared, atomic_raw}
use Rattle.sdd_world_model.specs.World.{World, AnyGuardOpen, place_at, standing_at}
use Rattle.sdd_world_model.specs.Collecting.{collector_closed, waiting_for}
use Rattle.sdd_world_model.specs.Cells.{null_pointer}
use Rattle.sdd_world_model.specs.InPlace.{MayInPlace, RefusedInPlace}
use Rattle.sdd_world_model.specs.WorldChanges.{registered, ended, retired, opened, closed, stirred, accelerated, deferred, reclaims, owner_given, with_standing, without_cell, cell_closed, nulled, pointing}
use Rattle.sdd_world_model.specs.WorldChanges as steps
use Rattle.sdd_world_model.specs.WorldStep.{WorldStep}
use Rattle.sdd_world_model.specs.ReclaimBound.{GoesInTime}
use Rattle.sdd_script_text.specs.declared.name.ItemName.{ItemName}
use Rattle.sdd_script_text.specs.declared.name.JobName.{JobName}
use Rattle.sdd_script_text.specs.declared.name.OwnerName.{OwnerName}
use Rattle.sdd_script_text.specs.declared.name.ListName.{ListName}
use Rattle.sdd_script_text.specs.declared.name.ListName.TheVariants as list
use Rattle.sdd_script_text.specs.declared.call.Call.{Call}
use Rattle.sdd_script_text.specs.declared.call.Call.TheVariants.{Register, Tally, At}
use Rattle.sdd_script_text.specs.declared.call.action.Action.{Action}
use Rattle.sdd_script_text.specs.Actions as call
use Rattle.sdd_script_text.specs.declared.call.Value.{Value}
use Rattle.sdd_script_text.specs.declared.call.Value.TheVariants.{Number, Of}
use Rattle.sdd_script_text.specs.declared.answer.Answer.{Answer}
use Rattle.sdd_script_text.specs.declared.answer.Reply.{Reply}
use Rattle.sdd_script_text.specs.declared.answer.Reply.TheVariants as reply
use Rattle.sdd_script_model.specs.declared.val.Body.TheVariants as body
use Rattle.sdd_script_model.specs.Val.{Val, body_of, holdings_of, link_of}
use Rattle.sdd_script_model.specs.declared.link_change.LinkChange.TheVariants as change
use Rattle.sdd_lists.specs.Lists.{Entry, content, first_slot, first_value, left, trimmed}
use Rattle.sdd_lists.specs.Stack.{poured}
use Rattle.sdd_lists.specs.Walk.{shown_of}
use Rattle.sdd_script_model.specs.Appending.{Appends, HasDeletedLink, MayAppend}
use Rattle.sdd_script_model.specs.Link.{IsBehind, IsLink, Retags}
use Rattle.sdd_script_model.specs.Stacks.{Drains, IsOwnedEnough, IsStack, Pushes, RefusesEntry, Takes, stack_closed}
use Rattle.sdd_script_model.specs.BagLines as bags
use Rattle.sdd_script_model.specs.BagLines.{Adds, AddsInside, HasMany, IsFullInside, MakesBag, RefusesAdd}
use Rattle.sdd_script_model.specs.Copies.{CopiesQueue, CopiesStack, RefusesQueueCopy, RefusesStackCopy}
use Rattle.sdd_script_model.specs.Containers.{HasNewest, IsContainer, TellsNumber}
use Rattle.sdd_lists.specs.Queue.{HasOneAtMost, QueueCells, queue_closed}
use Rattle.sdd_script_model.specs.Queues.{DrainsQueue, Enqueues, IsNamedQueue, TakesOldest}
use Rattle.sdd_script_model.specs.Made.{Makes, RefusesItem, put_in}
use Rattle.sdd_script_model.specs.Shown.{RepliesValue, IsCell, item_held, item_in}
use Rattle.sdd_script_model.specs.Collecting.{Collects}
use Rattle.sdd_script_model.specs.InPlace.{OwnsNumber, Puts, Drops, RefusesDrop, IsRaw}
use Rattle.sdd_script_model.specs.ScriptState.{ScriptState, OpenSince, IsStart, IsDated, IsThere, WaitsAt, Leaves, bag_at, opening_at, holding_at, slot_at, date_at, job_date_at, place_of, since_of, slot_of, sole_slot, shared_slot, shared_cell, collector_of, in_world, with_owner, without_owner, with_collector, without_collector, with_item, with_job, with_queue, without_queue, with_stack, without_stack, with_newcomer, without_participant, with_guard, without_guard, later}
use Rattle.sdd_script_model.specs.ScriptState as state
use Rattle.sdd_script_model.specs.Due.{Line, NamesWhatIsDue}

-- ---- what is there, and of the right kind

abbrev pub IsParticipant : ScriptState → ℕ → Type 0
IsParticipant d n = IsSome (opening_at d.places n)

-- the guard is open, and it is one of p's
abbrev pub IsOf : ℕ → Option OpenSince → Type 0
IsOf p None = ⊥
IsOf p (Some x) = x.place ≡ p

-- participant n is there, and g is the name of an open guard of it
abbrev pub HasOpen : ScriptState → (n g : ℕ) → Type 0
HasOpen d n g = IsParticipant d n × IsOf (place_of d n) (opening_at d.guards g)

-- the name is that of an owner, of either kind or of one
abbrev pub IsOwnerName : ScriptState → ℕ → Type 0
IsOwnerName d o = IsSome (slot_of (holding_at d.owners o))

abbrev pub IsSole : ScriptState → ℕ → Type 0
IsSole d o = IsSome (sole_slot (holding_at d.owners o))

abbrev pub IsShared : ScriptState → ℕ → Type 0
IsShared d o = IsSome (shared_slot (holding_at d.owners o))

-- the name is that of a cell, of either kind or of one
abbrev pub IsCellName : ScriptState → ℕ → Type 0
IsCellName d c = IsSome (state.cell_of (holding_at d.cells c))

abbrev pub IsSharedCell : ScriptState → ℕ → Type 0
IsSharedCell d c = IsSome (shared_cell (holding_at d.cells c))

-- the name is that of a collector
abbrev pub IsCollector : ScriptState → ℕ → Type 0
IsCollector d k = IsSome (collector_of (holding_at d.collectors k))

-- the name is that of a stack
abbrev pub IsStackName : ScriptState → ℕ → Type 0
IsStackName d s = IsSome (shared_cell (holding_at d.stacks s))

-- the name is that of a queue
abbrev pub IsQueueName : ScriptState → ℕ → Type 0
IsQueueName d q = IsSome (shared_cell (holding_at d.queues q))

-- the name is that of a container of entries
abbrev pub IsListName : ScriptState → ListName → Type 0
IsListName d (list.Queue q) = IsQueueName d q.0
IsListName d (list.Stack s) = IsStackName d s.0

-- the name is that of a bag
abbrev pub IsBagName : ScriptState → ℕ → Type 0
IsBagName d b = IsSome (bag_at d.bags b)

-- what goes into a cell of this kind is none, or there and of its kind
abbrev pub FitsCell : ScriptState → Option OwnerOrCell → Option OwnerName → Type 0
FitsCell d cell None = IsSome (state.cell_of cell)
FitsCell d None (Some o) = ⊥
FitsCell d (Some (owned k home)) (Some o) = ⊥
FitsCell d (Some (shared k home)) (Some o) = ⊥
FitsCell d (Some (atomic_owned c home)) (Some o) = IsSole d o.0
FitsCell d (Some (atomic_shared c home)) (Some o) = IsShared d o.0
FitsCell d (Some (atomic_raw c home)) (Some o) = ⊥

-- what goes into a new cell for only owners, or for shared ones
abbrev pub FitsSole : ScriptState → Option OwnerName → Type 0
FitsSole d None = Unit {0}
FitsSole d (Some o) = IsSole d o.0

abbrev pub FitsShared : ScriptState → Option OwnerName → Type 0
FitsShared d None = Unit {0}
FitsShared d (Some o) = IsShared d o.0

-- a guard of participant n is open
abbrev pub IsUnderGuard : ScriptState → ℕ → Type 0
IsUnderGuard d n = (g : ℕ) × HasOpen d n g

-- a participant can point to an item: it is there, and did not begin to wait before the participant's last outermost opening
abbrev pub CanPointTo : ScriptState → (n i : ℕ) → Type 0
CanPointTo d n i = IsThere d i × (IsTrue (is_waiting (standing_at d.world (slot_at d i))) → since_of d n ≤ date_at d (slot_at d i))

-- a participant can point to what an exchange compares with; null it can always
abbrev pub CanCompare : ScriptState → ℕ → Option ItemName → Type 0
CanCompare d n None = Unit {0}
CanCompare d n (Some i) = CanPointTo d n i.0

-- what a value takes is there
abbrev pub IsThereToPut : ScriptState → Value → Type 0
IsThereToPut d (Number n) = Unit {0}
IsThereToPut d (Of o) = IsOwnerName d o.0

-- what an action of participant n names is there, and of the right kind
abbrev pub IsValid : ScriptState → ℕ → Action → Type 0
IsValid d n call.Open = IsParticipant d n
IsValid d n call.End = IsParticipant d n
IsValid d n (call.Epoch g) = HasOpen d n g.0
IsValid d n (call.Garbage g) = HasOpen d n g.0
IsValid d n (call.Set g) = HasOpen d n g.0
IsValid d n (call.Accelerate g) = HasOpen d n g.0
IsValid d n (call.Defer g) = HasOpen d n g.0
IsValid d n (call.Close g) = HasOpen d n g.0
IsValid d n (call.Owned value) = IsParticipant d n × IsThereToPut d value
IsValid d n (call.Shared value) = IsParticipant d n × IsThereToPut d value
IsValid d n (call.Read o) = IsParticipant d n × IsOwnerName d o.0
IsValid d n (call.Retire o) = IsParticipant d n × IsSole d o.0
IsValid d n (call.Release o) = IsParticipant d n × IsShared d o.0
IsValid d n (call.Clone o) = IsParticipant d n × IsShared d o.0
IsValid d n (call.Put o number) = IsParticipant d n × OwnsNumber d o.0
IsValid d n (call.Drop o) = IsParticipant d n × IsOwnerName d o.0
IsValid d n (call.Raw o) = IsParticipant d n × IsSole d o.0
IsValid d n (call.Unraw i) = IsParticipant d n × IsThere d i.0
IsValid d n (call.See i g) = HasOpen d n g.0 × IsThere d i.0
IsValid d n (call.Look i g) = HasOpen d n g.0 × CanPointTo d n i.0
IsValid d n (call.Upgrade i g) = HasOpen d n g.0 × CanPointTo d n i.0
IsValid d n (call.CellOwned x) = IsParticipant d n × FitsSole d x
IsValid d n (call.CellShared x) = IsParticipant d n × FitsShared d x
IsValid d n (call.Load c g) = HasOpen d n g.0 × IsCellName d c.0
IsValid d n (call.Tag c) = IsParticipant d n × IsCellName d c.0
IsValid d n (call.Swap c x tag) = IsParticipant d n × FitsCell d (holding_at d.cells c.0) x
IsValid d n (call.TagIf c tag was) = IsParticipant d n × IsCellName d c.0
IsValid d n (call.Exchange c g i was x tag) = HasOpen d n g.0 × CanCompare d n i × FitsCell d (holding_at d.cells c.0) x
IsValid d n (call.Into c) = IsParticipant d n × IsCellName d c.0
IsValid d n (call.Copy c g) = HasOpen d n g.0 × IsSharedCell d c.0
IsValid d n (call.Share c g) = HasOpen d n g.0 × IsSharedCell d c.0
IsValid d n (call.Mark i) = IsUnderGuard d n × CanPointTo d n i.0
IsValid d n (call.Unmark i) = IsUnderGuard d n × CanPointTo d n i.0
IsValid d n (call.Delete i) = IsUnderGuard d n × CanPointTo d n i.0
IsValid d n (call.LinkTag i) = IsUnderGuard d n × CanPointTo d n i.0
IsValid d n (call.Append i o mark g) = HasOpen d n g.0 × CanPointTo d n i.0 × MayAppend d i.0 o.0
IsValid d n (call.Next i g) = HasOpen d n g.0 × CanPointTo d n i.0
IsValid d n call.Queue = IsParticipant d n
IsValid d n call.Stack = IsParticipant d n
IsValid d n (call.Push l number g) = HasOpen d n g.0 × IsListName d l
IsValid d n (call.PushIf l number m g) = HasOpen d n g.0 × IsListName d l
IsValid d n (call.Pop l g) = HasOpen d n g.0 × IsListName d l
IsValid d n (call.PopIf l m g) = HasOpen d n g.0 × IsListName d l
IsValid d n (call.All s g) = HasOpen d n g.0 × IsStackName d s.0
IsValid d n (call.Peek l g) = HasOpen d n g.0 × IsListName d l
IsValid d n (call.Len l g) = HasOpen d n g.0 × IsListName d l
IsValid d n (call.List l g) = HasOpen d n g.0 × IsListName d l
IsValid d n (call.CloneList l g) = HasOpen d n g.0 × IsListName d l
IsValid d n call.Bag = IsParticipant d n
IsValid d n (call.Add b number g) = HasOpen d n g.0 × IsBagName d b.0
IsValid d n (call.Try b number) = IsParticipant d n × IsBagName d b.0
IsValid d n (call.Take b g) = HasOpen d n g.0 × IsBagName d b.0
IsValid d n (call.Drain b g) = HasOpen d n g.0 × IsBagName d b.0
IsValid d n (call.LenBag b g) = HasOpen d n g.0 × IsBagName d b.0
IsValid d n (call.CloseBag b) = IsUnderGuard d n × IsBagName d b.0
IsValid d n (call.CloseQueue q) = IsUnderGuard d n × IsQueueName d q.0
IsValid d n (call.CloseStack s) = IsUnderGuard d n × IsStackName d s.0
IsValid d n (call.CloseCell c) = IsParticipant d n × IsCellName d c.0
IsValid d n call.Collector = IsParticipant d n
IsValid d n (call.Collect o g k) = HasOpen d n g.0 × IsOwnerName d o.0 × IsCollector d k.0
IsValid d n (call.CloseCollector k) = IsParticipant d n × IsCollector d k.0

-- ---- what an action answers and leaves

-- an owner is given, with this world
abbrev pub GivesOwner : ScriptState → World Val → OwnerOrCell → OwnerName → ScriptState → Type 0
GivesOwner d w h o new = (o.0 ≡ length d.owners) × Leaves (with_owner (in_world d w) h) new

-- one owner more of the item in slot k
abbrev pub AddsOwner : ScriptState → ℕ → Reply → ScriptState → Type 0
AddsOwner d k (reply.Owner o) new =
    (owners : ℕ) × IsSharedBy owners (standing_at d.world k) × (owners < 2 ^ 62)
    × GivesOwner d (with_standing d.world k (Shared (owners + 1))) (shared k d.world.home.slots) o new
AddsOwner d k (reply.Refused TooManyOwners) new = IsSharedBy (2 ^ 62) (standing_at d.world k) × (new ≡ d)
AddsOwner d k other new = ⊥

-- ---- cells

-- the slot of what goes into a cell
abbrev pub slot_put : ScriptState → Option OwnerName → Option ℕ
slot_put d None = None
slot_put d (Some o) = slot_of (holding_at d.owners o.0)

-- the owners that are left by it
abbrev pub owners_put : List (Option OwnerOrCell) → Option OwnerName → List (Option OwnerOrCell)
owners_put owners None = owners
owners_put owners (Some o) = slice_set owners o.0 None

-- a cell of the same kind as this one, or an owner that it holds
abbrev pub cell_as : Option OwnerOrCell → ℕ → ScriptState → OwnerOrCell
cell_as (Some (atomic_shared c home)) k d = atomic_shared k d.world.home.cells
cell_as other k d = atomic_owned k d.world.home.cells

abbrev pub owner_as : Option OwnerOrCell → ℕ → ScriptState → OwnerOrCell
owner_as (Some (atomic_shared c home)) k d = shared k d.world.home.slots
owner_as other k d = owned k d.world.home.slots

-- what a cell held gets a name, if it held something
abbrev pub owners_taken : ScriptState → List (Option OwnerOrCell) → Option OwnerOrCell → Option ℕ → List (Option OwnerOrCell)
owners_taken d owners cell None = owners
owners_taken d owners cell (Some k) = owners ++ Some (owner_as cell k d) ∷ []

-- the name that it gets
abbrev pub IsNameOf : ScriptState → Option ℕ → Option OwnerName → Type 0
IsNameOf d None None = Unit {0}
IsNameOf d None (Some o) = ⊥
IsNameOf d (Some k) None = ⊥
IsNameOf d (Some k) (Some o) = o.0 ≡ length d.owners

-- cell k of this name holds what goes in, with this tag, and what it held gets a name
abbrev pub Swaps : ScriptState → (c k : ℕ) → CellContents → Option OwnerName → Tag → ScriptState → Type 0
Swaps d c k cell x tag new =
    Leaves (record d {
      world = steps.with_cell d.world k (record { held = slot_put d x; tag = tag });
      owners = owners_taken d (owners_put d.owners x) (holding_at d.cells c) cell.held;
    }) new

-- a new cell, with what goes in
abbrev pub MakesCell : ScriptState → Option OwnerName → (ℕ → ScriptState → OwnerOrCell) → Reply → ScriptState → Type 0
MakesCell d x kind (reply.Cell c) new =
    (c.0 ≡ length d.cells) × ((k : ℕ) × IsEmptyAt d.world.cells k × Leaves (record d {
      world = steps.with_cell d.world k (record { held = slot_put d x; tag = no_tag });
      owners = owners_put d.owners x;
      cells = d.cells ++ Some (kind k d) ∷ [];
    }) new)
MakesCell d x kind (reply.Refused NoCell) new = IsFull d.world.cells × (new ≡ d)
MakesCell d x kind other new = ⊥

-- the slot of what an exchange compares with
abbrev pub slot_compared : ScriptState → Option ItemName → Option ℕ
slot_compared d None = None
slot_compared d (Some i) = Some (slot_at d i.0)

-- what a cell held comes back under a name, or none
abbrev pub IsGivenBack : ScriptState → Option ℕ → Reply → Type 0
IsGivenBack d None reply.Nothing = Unit {0}
IsGivenBack d (Some k) (reply.Owner o) = o.0 ≡ length d.owners
IsGivenBack d held other = ⊥

-- one owner more of what a cell holds, if it holds something
abbrev pub shared_once_more : World Val → Option ℕ → ℕ → World Val
shared_once_more w None owners = w
shared_once_more w (Some k) owners = with_standing w k (Shared (owners + 1))

-- the cell holds nothing, or has room for one owner more
abbrev pub MayShare : World Val → Option ℕ → ℕ → Type 0
MayShare w None owners = Unit {0}
MayShare w (Some k) owners = IsSharedBy owners (standing_at w k) × (owners < 2 ^ 62)

abbrev pub IsShareFull : World Val → Option ℕ → Type 0
IsShareFull w None = ⊥
IsShareFull w (Some k) = IsSharedBy (2 ^ 62) (standing_at w k)

-- ---- containers of entries

-- p puts the number among the entries of the container of this name: its item and an owner of that are named
abbrev pub PutsIn : ScriptState → (p : ℕ) → ListName → ℕ → OwnerName → ItemName → ScriptState → Type 0
PutsIn d p (list.Queue q) number o i new =
    (i.0 ≡ length d.slots) × ((cells : QueueCells) × (es : List (Entry Val)) × (second : Option ℕ) × (k : ℕ) × (w : World Val)
    × IsNamedQueue d q.0 cells es second × Enqueues d.world p cells es second number k w
    × GivesOwner (with_item d k) w (shared k d.world.home.slots) o new)
PutsIn d p (list.Stack s) number o i new =
    (i.0 ≡ length d.slots) × ((c : ℕ) × (es : List (Entry Val)) × (k : ℕ) × (w : World Val) × IsStack d s.0 c es × Pushes d.world p c es number k w
    × GivesOwner (with_item d k) w (shared k d.world.home.slots) o new)

-- p takes out the first entry that isn't deleted, which has the number, and is given an owner of it
abbrev pub TakesOut : ScriptState → (p : ℕ) → ListName → ℕ → OwnerName → ScriptState → Type 0
TakesOut d p (list.Queue q) number o new =
    (cells : QueueCells) × (es : List (Entry Val)) × (second : Option ℕ) × (e : Entry Val) × (w : World Val) × IsNamedQueue d q.0 cells es second
    × (body_of e.value ≡ body.Number number) × TakesOldest d.world p cells es second e w × GivesOwner d w (shared e.slot d.world.home.slots) o new
TakesOut d p (list.Stack s) number o new =
    (c : ℕ) × (es : List (Entry Val)) × (e : Entry Val) × (w : World Val) × IsStack d s.0 c es × (body_of e.value ≡ body.Number number)
    × Takes d.world p c es e w × GivesOwner d w (shared e.slot d.world.home.slots) o new

-- each entry is deleted, and p lets go of all
abbrev pub IsDrainedOf : ScriptState → (p : ℕ) → ListName → ScriptState → Type 0
IsDrainedOf d p (list.Queue q) new =
    (cells : QueueCells) × (es : List (Entry Val)) × (second : Option ℕ) × (w : World Val) × IsNamedQueue d q.0 cells es second
    × DrainsQueue d.world p cells es second w × Leaves (in_world d w) new
IsDrainedOf d p (list.Stack s) new =
    (c : ℕ) × (es : List (Entry Val)) × (w : World Val) × IsStack d s.0 c es × Drains d.world p c es w × Leaves (in_world d w) new

-- the first entry that isn't deleted has as many owners as there may be
abbrev pub HasCrowdedFirst : ScriptState → ListName → Type 0
HasCrowdedFirst d l = (c : ℕ) × (es : List (Entry Val)) × IsContainer d l c es × IsOwnedEnough d.world es

-- an action of participant n, at p, may be replied to so, and leave the state new
abbrev pub Does : ScriptState → (n p : ℕ) → Action → Reply → ScriptState → Type 0
Does d n p call.Open (reply.Guard g epoch) new =
    CanNest d.world.time p × (g.0 ≡ length d.guards) × (epoch ≡ epoch_of new.world.time.count)
    × Leaves (in_world (with_guard d n p) (opened holdings_of d.world p)) new
Does d n p call.Open (reply.Refused TooManyGuards) new = ¬ (CanNest d.world.time p) × (new ≡ d)
Does d n p (call.Epoch g) (reply.Epoch epoch) new = (epoch ≡ epoch_of d.world.time.count) × (new ≡ d)
Does d n p (call.Garbage g) (reply.Truth b) new = (b ≡ has_garbage (place_at d.world p)) × (new ≡ d)
Does d n p (call.Set g) reply.Done new = Leaves (in_world d (stirred d.world p)) new
Does d n p (call.Accelerate g) reply.Done new = Leaves (in_world d (accelerated d.world p)) new
-- a free place of the table of jobs is taken, whichever
Does d n p (call.Defer g) (reply.Job j) new =
    (j.0 ≡ d.jobs) × ((k : ℕ) × IsEmptyAt d.world.jobs k × Leaves (in_world (with_job d k) (deferred d.world p k)) new)
Does d n p (call.Defer g) (reply.Refused NoJob) new = IsFull d.world.jobs × (new ≡ d)
Does d n p (call.Close g) reply.Done new = Leaves (in_world (without_guard d g.0) (closed d.world p)) new
Does d n p call.End reply.Done new = ¬ (IsTrue (is_open (place_at d.world p))) × Leaves (in_world (without_participant d n) (ended d.world p)) new
Does d n p call.End (reply.Refused GuardOpen) new = IsTrue (is_open (place_at d.world p)) × (new ≡ d)
-- a free cell and a free slot are taken, whichever
Does d n p (call.Owned value) (reply.Item o i) new =
    (i.0 ≡ length d.slots) × ((k : ℕ) × (world : World Val) × Makes d value Owned k world
    × GivesOwner (with_item (put_in d value) k) world (owned k d.world.home.slots) o new)
Does d n p (call.Owned value) (reply.Refused refused) new = RefusesItem d.world refused × (new ≡ d)
Does d n p (call.Shared value) (reply.Item o i) new =
    (i.0 ≡ length d.slots) × ((k : ℕ) × (world : World Val) × Makes d value (Shared 1) k world
    × GivesOwner (with_item (put_in d value) k) world (shared k d.world.home.slots) o new)
Does d n p (call.Shared value) (reply.Refused refused) new = RefusesItem d.world refused × (new ≡ d)
Does d n p (call.Read o) given new = ((k : ℕ) × (slot_of (holding_at d.owners o.0) ≡ Some k) × RepliesValue d k given) × (new ≡ d)
Does d n p (call.Look i g) given new = RepliesValue d (slot_at d i.0) given × (new ≡ d)
-- none where the item has one owner that can't be shared, or the last one went
Does d n p (call.Upgrade i g) reply.Nothing new = ((owners : ℕ) → standing_at d.world (slot_at d i.0) ≢ Some (Shared owners)) × (new ≡ d)
Does d n p (call.Upgrade i g) given new = AddsOwner d (slot_at d i.0) given new
Does d n p (call.Clone o) given new = (k : ℕ) × (shared_slot (holding_at d.owners o.0) ≡ Some k) × AddsOwner d k given new
Does d n p (call.Retire o) reply.Done new =
    (k : ℕ) × (sole_slot (holding_at d.owners o.0) ≡ Some k) × Leaves (in_world (without_owner d o.0) (retired d.world p k)) new
Does d n p (call.Release o) (reply.Truth b) new =
    (k : ℕ) × (owners : ℕ) × (shared_slot (holding_at d.owners o.0) ≡ Some k) × IsSharedBy owners (standing_at d.world k) × (IsTrue b ↔ (owners ≡ 1))
    × Leaves (in_world (without_owner d o.0) (owner_given d.world p k (Some (Shared owners)))) new
Does d n p (call.Put o number) reply.Done new =
    (k : ℕ) × (w : World Val) × (slot_of (holding_at d.owners o.0) ≡ Some k) × MayInPlace d.world k × Puts d.world k number w × Leaves (in_world d w) new
Does d n p (call.Put o number) (reply.Refused e) new =
    ((k : ℕ) × (slot_of (holding_at d.owners o.0) ≡ Some k) × RefusedInPlace d.world k e) × (new ≡ d)
Does d n p (call.Drop o) (reply.Refused GuardOpen) new = ((h : OwnerOrCell) × (holding_at d.owners o.0 ≡ Some h) × RefusesDrop d.world h) × (new ≡ d)
Does d n p (call.Drop o) given new =
    (h : OwnerOrCell) × (w : World Val) × (holding_at d.owners o.0 ≡ Some h) × Drops d.world p h given w × Leaves (in_world (without_owner d o.0) w) new
Does d n p (call.Raw o) (reply.Raw i) new =
    (k : ℕ) × (sole_slot (holding_at d.owners o.0) ≡ Some k) × (i ≡ item_in d.names k)
    × Leaves (in_world (without_owner d o.0) (with_standing d.world k Raw)) new
-- none where the item isn't out as raw
Does d n p (call.Unraw i) reply.Nothing new = ¬ (IsRaw d i.0) × (new ≡ d)
Does d n p (call.Unraw i) (reply.Owner o) new =
    IsRaw d i.0 × GivesOwner d (with_standing d.world (slot_at d i.0) Owned) (owned (slot_at d i.0) d.world.home.slots) o new
Does d n p (call.See i g) reply.Nothing new = ¬ (IsRaw d i.0) × (new ≡ d)
Does d n p (call.See i g) given new = IsRaw d i.0 × RepliesValue d (slot_at d i.0) given × (new ≡ d)
Does d n p (call.CellOwned x) given new = MakesCell d x (cell_as None) given new
Does d n p (call.CellShared x) given new = MakesCell d x (cell_as (Some (atomic_shared 0 d.world.home.cells))) given new
Does d n p (call.Load c g) (reply.Pointer i tag) new = ((k : ℕ) × (cell : CellContents) × IsCell d c.0 k cell × (i ≡ item_held d cell) × (tag ≡ cell.tag))
    × (new ≡ d)
Does d n p (call.Tag c) (reply.Tag tag) new = ((k : ℕ) × (cell : CellContents) × IsCell d c.0 k cell × (tag ≡ cell.tag)) × (new ≡ d)
Does d n p (call.Swap c x tag) (reply.Swapped o was) new =
    (k : ℕ) × (cell : CellContents) × IsCell d c.0 k cell × IsNameOf d cell.held o × (was ≡ cell.tag) × Swaps d c.0 k cell x tag new
Does d n p (call.TagIf c tag was) (reply.Truth b) new =
    (k : ℕ) × (cell : CellContents) × IsCell d c.0 k cell × (IsTrue b ↔ (cell.tag ≡ was))
    × Leaves (in_world d (if b then steps.with_cell d.world k (record cell { tag = tag }) else d.world)) new
Does d n p (call.Exchange c g i was x tag) (reply.Exchanged o) new =
    (k : ℕ) × (cell : CellContents) × IsCell d c.0 k cell × (cell ≡ record { held = slot_compared d i; tag = was }) × IsNameOf d cell.held o
    × Swaps d c.0 k cell x tag new
Does d n p (call.Exchange c g i was x tag) (reply.Differs j now) new =
    ((k : ℕ) × (cell : CellContents) × IsCell d c.0 k cell × (cell ≢ record { held = slot_compared d i; tag = was }) × (j ≡ item_held d cell)
    × (now ≡ cell.tag)) ×
    (new ≡ d)
Does d n p (call.Into c) given new =
    (k : ℕ) × (cell : CellContents) × IsCell d c.0 k cell × IsGivenBack d cell.held given
    × Leaves (record d {
      world = without_cell d.world k;
      owners = owners_taken d d.owners (holding_at d.cells c.0) cell.held;
      cells = slice_set d.cells c.0 None;
    }) new
Does d n p (call.Copy c g) (reply.Cell r) new =
    (r.0 ≡ length d.cells) × ((k : ℕ) × (cell : CellContents) × IsCell d c.0 k cell × ((owners : ℕ) × (other : ℕ) × MayShare d.world cell.held owners ×
    IsEmptyAt d.world.cells other
    × Leaves (record d {
      world = steps.with_cell (shared_once_more d.world cell.held owners) other cell;
      cells = d.cells ++ Some (atomic_shared other d.world.home.cells) ∷ [];
    }) new))
Does d n p (call.Copy c g) (reply.Refused NoCell) new = IsFull d.world.cells × (new ≡ d)
Does d n p (call.Copy c g) (reply.Refused TooManyOwners) new =
    ¬ (IsFull d.world.cells) × ((k : ℕ) × (cell : CellContents) × IsCell d c.0 k cell × IsShareFull d.world cell.held) × (new ≡ d)
Does d n p (call.Share c g) reply.Nothing new = ((k : ℕ) × (cell : CellContents) × IsCell d c.0 k cell × (cell.held ≡ None)) × (new ≡ d)
Does d n p (call.Share c g) given new = (k : ℕ) × (s : ℕ) × (cell : CellContents) × IsCell d c.0 k cell × (cell.held ≡ Some s) × AddsOwner d s given new
Does d n p (call.Mark i) (reply.Truth b) new = Retags d i.0 change.Mark b new
Does d n p (call.Unmark i) (reply.Truth b) new = Retags d i.0 change.Unmark b new
Does d n p (call.Delete i) (reply.Truth b) new = Retags d i.0 change.Delete b new
Does d n p (call.LinkTag i) (reply.Tag tag) new = ((k : ℕ) × (cell : CellContents) × IsLink d i.0 k cell × (tag ≡ cell.tag)) × (new ≡ d)
Does d n p (call.Append i o mark g) reply.Done new = Appends d i.0 o.0 mark new
Does d n p (call.Append i o mark g) reply.Deleted new = HasDeletedLink d i.0 × (new ≡ d)
-- p lets go of the deleted ones between the item and the one that is told
Does d n p (call.Next i g) (reply.Pointer j tag) new =
    (k : ℕ) × (t : Tag) × (es : List (Entry Val)) × IsBehind d i.0 k t es × (j ≡ option_map (item_in d.names) (first_slot (left es))) × (tag ≡ no_tag)
    × Leaves (in_world d (trimmed link_of d.world p k t es)) new
-- two free cells are taken, whichever
Does d n p call.Queue (reply.Queue q) new =
    (q.0 ≡ length d.queues) × ((cells : QueueCells) × IsEmptyAt d.world.cells cells.oldest × IsEmptyAt d.world.cells cells.newest
    × (cells.oldest ≢ cells.newest)
    × Leaves (in_world (with_queue d cells.oldest cells.newest) (nulled (nulled d.world cells.oldest) cells.newest)) new)
Does d n p call.Queue (reply.Refused NoCell) new = HasOneAtMost d.world.cells × (new ≡ d)
-- a free cell is taken, whichever
Does d n p call.Stack (reply.Stack s) new =
    (s.0 ≡ length d.stacks) × ((c : ℕ) × IsEmptyAt d.world.cells c × Leaves (in_world (with_stack d c) (nulled d.world c)) new)
Does d n p call.Stack (reply.Refused NoCell) new = IsFull d.world.cells × (new ≡ d)
-- a free cell and a free slot are taken, whichever
Does d n p (call.Push l number g) (reply.Item o i) new = PutsIn d p l number o i new
Does d n p (call.Push l number g) (reply.Refused refused) new = RefusesEntry d.world refused × (new ≡ d)
Does d n p (call.PushIf l number m g) (reply.Item o i) new = HasNewest d l m × PutsIn d p l number o i new
Does d n p (call.PushIf l number m g) (reply.Kept back) new = (back ≡ number) × ¬ (HasNewest d l m) × (new ≡ d)
Does d n p (call.PushIf l number m g) (reply.Refused refused) new = HasNewest d l m × RefusesEntry d.world refused × (new ≡ d)
Does d n p (call.Pop l g) (reply.Popped o number) new = TakesOut d p l number o new
Does d n p (call.Pop l g) reply.Nothing new = IsDrainedOf d p l new
Does d n p (call.Pop l g) (reply.Refused TooManyOwners) new = HasCrowdedFirst d l × (new ≡ d)
Does d n p (call.PopIf l m g) (reply.Popped o number) new = (number ≡ m) × TakesOut d p l number o new
Does d n p (call.PopIf l m g) reply.Nothing new = IsDrainedOf d p l new
Does d n p (call.PopIf l m g) (reply.KeptEntry o number) new =
    (number ≢ m) × ((c : ℕ) × (es : List (Entry Val)) × (e : Entry Val) × (rest : List (Entry Val)) × IsContainer d l c es × (left es ≡ e ∷ rest)
    × (body_of e.value ≡ body.Number number) × AddsOwner d e.slot (reply.Owner o) new)
Does d n p (call.PopIf l m g) (reply.Refused TooManyOwners) new = HasCrowdedFirst d l × (new ≡ d)
-- a free cell is taken, whichever
Does d n p (call.All s g) (reply.Stack r) new =
    (r.0 ≡ length d.stacks) × ((c : ℕ) × (es : List (Entry Val)) × (k : ℕ) × IsStack d s.0 c es × IsEmptyAt d.world.cells k
    × Leaves (in_world (with_stack d k) (poured d.world c k es)) new)
Does d n p (call.All s g) (reply.Refused NoCell) new = IsFull d.world.cells × (new ≡ d)
Does d n p (call.Peek l g) given new = ((c : ℕ) × (es : List (Entry Val)) × IsContainer d l c es × TellsNumber given (first_value (left es))) × (new ≡ d)
Does d n p (call.Len l g) (reply.Value m) new = ((c : ℕ) × (es : List (Entry Val)) × IsContainer d l c es × (m ≡ length (content es))) × (new ≡ d)
Does d n p (call.List l g) (reply.Numbers ns) new =
    ((c : ℕ) × (es : List (Entry Val)) × IsContainer d l c es × (shown_of es ≡ map body.Number ns)) × (new ≡ d)
-- free cells and free slots are taken, whichever
Does d n p (call.CloneList (list.Queue q) g) (reply.Queue r) new = CopiesQueue d p q.0 r.0 new
Does d n p (call.CloneList (list.Stack s) g) (reply.Stack r) new = CopiesStack d p s.0 r.0 new
Does d n p (call.CloneList (list.Queue q) g) (reply.Refused refused) new = RefusesQueueCopy d p q.0 refused new
Does d n p (call.CloneList (list.Stack s) g) (reply.Refused refused) new = RefusesStackCopy d p s.0 refused new
-- two free cells are taken, whichever
Does d n p call.Bag (reply.Bag b) new = MakesBag d b.0 new
Does d n p call.Bag (reply.Refused NoCell) new = HasOneAtMost d.world.cells × (new ≡ d)
-- for a storage more a free slot and two free cells are taken, whichever
Does d n p (call.Add b number g) reply.Done new = Adds d p b.0 number new
Does d n p (call.Add b number g) (reply.Refused refused) new = RefusesAdd d b.0 refused × (new ≡ d)
Does d n p (call.Try b number) reply.Done new = AddsInside d b.0 number new
Does d n p (call.Try b number) (reply.Kept back) new = (back ≡ number) × IsFullInside d b.0 × (new ≡ d)
-- some number is taken, whichever
Does d n p (call.Take b g) (reply.Value number) new = bags.Takes d p b.0 number new
Does d n p (call.Take b g) reply.Nothing new = bags.IsEmpty d b.0 × (new ≡ d)
Does d n p (call.Drain b g) (reply.Numbers numbers) new = bags.Drains d p b.0 numbers new
Does d n p (call.LenBag b g) (reply.Many many) new = HasMany d b.0 many × (new ≡ d)
Does d n p (call.CloseBag b) reply.Done new = bags.Closes d p b.0 new
Does d n p (call.CloseQueue q) reply.Done new =
    (cells : QueueCells) × (es : List (Entry Val)) × (second : Option ℕ) × IsNamedQueue d q.0 cells es second
    × Leaves (in_world (without_queue d q.0) (queue_closed link_of d.world p cells es second)) new
Does d n p (call.CloseStack s) reply.Done new =
    (c : ℕ) × (es : List (Entry Val)) × IsStack d s.0 c es × Leaves (in_world (without_stack d s.0) (stack_closed d.world p c es)) new
Does d n p (call.CloseCell c) reply.Done new =
    (k : ℕ) × (state.cell_of (holding_at d.cells c.0) ≡ Some k)
    × Leaves (record d { world = cell_closed d.world p k; cells = slice_set d.cells c.0 None }) new
-- a free cell is taken, whichever
Does d n p call.Collector (reply.Collector k) new =
    (k.0 ≡ length d.collectors)
    × ((c : ℕ) × IsEmptyAt d.world.cells c × Leaves (in_world (with_collector d c) (pointing d.world c null_pointer)) new)
Does d n p call.Collector (reply.Refused NoCell) new = IsFull d.world.cells × (new ≡ d)
Does d n p (call.Collect o g k) given new =
    (c : ℕ) × (h : OwnerOrCell) × (w : World Val) × (collector_of (holding_at d.collectors k.0) ≡ Some c) × (holding_at d.owners o.0 ≡ Some h)
    × Collects d.world p c h given w × Leaves (in_world (without_owner d o.0) w) new
Does d n p (call.CloseCollector k) reply.Done new =
    (c : ℕ) × (collector_of (holding_at d.collectors k.0) ≡ Some c) × ¬ (AnyGuardOpen d.world)
    × Leaves (in_world (without_collector d k.0) (collector_closed holdings_of d.world p c)) new
Does d n p (call.CloseCollector k) (reply.Refused GuardOpen) new = AnyGuardOpen d.world × (new ≡ d)
-- no other reply is given
Does d n p action other new = ⊥

-- a call may be answered so, and leave the state new
abbrev pub Meets : ScriptState → Call → Reply → ScriptState → Type 0
-- the newcomer's place is vacant, whichever
Meets d Register (reply.Place name) new =
    (name.0 ≡ length d.places) × ((p : ℕ) × IsVacant d.world.time p × Leaves (in_world (with_newcomer d p) (registered d.world p)) new)
Meets d Register (reply.Refused NoPlace) new = IsCrowded d.world.time × (new ≡ d)
Meets d Tally (reply.Tally t) new = (t ≡ d.world.tally) × (new ≡ d)
Meets d (At n action) reply.Invalid new = ¬ (IsValid d n.0 action) × (new ≡ d)
Meets d (At n action) other new = IsValid d n.0 action × Does d n.0 (place_of d n.0) action other new
Meets d call other new = ⊥

-- ---- what an answer names as reclaimed, and as run

-- the slot's item is reclaimed by the call
abbrev pub IsReclaimed : ScriptState → Call → Reply → ℕ → Type 0
IsReclaimed d (At n call.Open) (reply.Guard g epoch) s = Contains (reclaims d.world (place_of d n.0)) (Item s)
IsReclaimed d (At n (call.CloseCollector k)) reply.Done s =
    (c : ℕ) × (collector_of (holding_at d.collectors k.0) ≡ Some c) × Contains (waiting_for d.world c) (Item s)
IsReclaimed d call other s = ⊥

-- the job in this place of the table of jobs is run by the call
abbrev pub IsRunBy : ScriptState → Call → Reply → ℕ → Type 0
IsRunBy d (At n call.Open) (reply.Guard g epoch) k = Contains (reclaims d.world (place_of d n.0)) (Job k)
IsRunBy d call other k = ⊥

pub record NamesWhatRuns (d : ScriptState) (call : Call) (given : Reply) (names : List JobName) : Type 0 where
  pub ascending : IsStrictlyIncreasing (map (λ (j : JobName). j.0) names)
  pub exactly : (j : JobName) → Contains names j ↔ ((k : ℕ) × WaitsAt d j.0 k × IsRunBy d call given k)
  -- each was deferred before any guard was opened that is open now
  pub unguarded : (j : JobName) → Contains names j → (k : ℕ) → WaitsAt d j.0 k → (g : ℕ) (guard : OpenSince) → opening_at d.guards g ≡ Some guard →
      job_date_at d k < guard.since

pub record NamesWhatGoes (d : ScriptState) (call : Call) (given : Reply) (names : List ItemName) : Type 0 where
  pub ascending : IsStrictlyIncreasing (map (λ (i : ItemName). i.0) names)
  pub exactly : (i : ItemName) → Contains names i ↔ (IsThere d i.0 × IsReclaimed d call given (slot_at d i.0))
  -- each began to wait before any guard was opened that is open now
  pub unguarded : (i : ItemName) → Contains names i → (g : ℕ) (guard : OpenSince) → opening_at d.guards g ≡ Some guard →
      date_at d (slot_at d i.0) < guard.since

-- ---- lines

-- calls of worlds, one after another
pub data AreCalls : World Val → World Val → Type 0 where
  none : (w : World Val) → AreCalls w w
  one_more : (u v w : World Val) → AreCalls u v → WorldStep holdings_of v w → AreCalls u w

-- a call is replied to so, and leaves the state new
pub record Acts (old : ScriptState) (call : Call) (given : Reply) (new : ScriptState) : Type 0 where
  pub meets : Meets old call given new
  pub dated : IsDated old new
  pub line : new.moment ≡ old.moment
  -- what is always true of a world's calls is true of this one
  pub calls : AreCalls old.world new.world

-- and it is answered so
pub record Answers (old : ScriptState) (call : Call) (answer : Answer) (new : ScriptState) : Type 0 where
  pub acts : Acts old call answer.reply new
  pub goes : NamesWhatGoes old call answer.reply answer.reclaimed
  pub runs : NamesWhatRuns old call answer.reply answer.ran

-- one line: the call, its answer, and the state left behind
abbrev pub LineStep : ScriptState → Call → Answer → ScriptState → Type 0
LineStep old call answer new = Answers (later old) call answer new

-- one line after another; after each, what waits goes in time
abbrev pub Runs : ScriptState → List Call → List Answer → ScriptState → Type 0
Runs old [] [] new = new ≡ old
Runs old (call ∷ calls) (answer ∷ answers) new = (mid : ScriptState) × LineStep old call answer mid × GoesInTime holdings_of mid.world
    × Runs mid calls answers new
Runs old [] (answer ∷ answers) new = ⊥
Runs old (call ∷ calls) [] new = ⊥

-- and each opening among them names exactly what is due at it, after these lines, the newest first
abbrev pub EachNamesWhatIsDue : List Line → (old : ScriptState) (calls : List Call) (answers : List Answer) (new : ScriptState) →
    Runs old calls answers new → Type 0
EachNamesWhatIsDue past old (call ∷ calls) (answer ∷ answers) new (mid, step, time, rest) =
    let line : Line = record { before = old; call = call; answer = answer; after = mid } in
    NamesWhatIsDue past line × EachNamesWhatIsDue (line ∷ past) mid calls answers new rest
EachNamesWhatIsDue past old calls answers new runs = Unit {0}

-- a whole script, on a new world within these limits: each line is answered as is meant and leaves what is meant
pub record IsRun (limits : Limits) (calls : List Call) (answers : List Answer) (scene : ScriptState) : Type 0 where
  pub start : ScriptState
  pub begins : IsStart limits start
  pub runs : Runs start calls answers scene
  -- what is due is said by the lines and their order
  pub due : EachNamesWhatIsDue [] start calls answers scene runs

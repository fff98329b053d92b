-- Containers of entries that a script has names for, and what steps on them ask, answer and leave
use Rattle.std.specs.Prelude.{ℕ, ◌≡◌, ◌^◌, ◌<◌, ◌+◌, List, ◌∷◌, Option, None, Some, Result, Ok, Err, slice_index_or}
use Rattle.sdd_core.specs.declared.refused.Refused.{Refused}
use Rattle.sdd_core.specs.declared.refused.Refused.TheVariants.{TooManyOwners}
use Rattle.sdd_participants.specs.declared.standing.Standing.TheVariants.{Shared as shared_by}
use Rattle.sdd_rights.specs.Units as units
use Rattle.sdd_world_model.specs.Slots.{IsSharedBy}
use Rattle.sdd_space.specs.Shared.{slot_of, slots_home}
use Rattle.sdd_world_model.specs.World.{World, standing_at}
use Rattle.sdd_world_model.specs.WorldChanges.{with_standing}
use Rattle.sdd_space.specs.Shared.{Shared}
use Rattle.sdd_lists.specs.Ends.{last_value}
use Rattle.sdd_lists.specs.Lists.{Entry, first_value, left}
use Rattle.sdd_lists.specs.Queue.{AreOfCells, IsQueue, cells_in}
use Rattle.sdd_lists.specs.Stack as stacks
use Rattle.sdd_lists.specs.declared.queue.Queue.{Queue}
use Rattle.sdd_lists.specs.declared.stack.Stack.{Stack}
use Rattle.sdd_lists.specs.declared.unpopped.Unpopped.{Unpopped}
use Rattle.sdd_lists.specs.declared.unpopped.Unpopped.TheVariants.{Kept, Refused as RefusedBy}
use Rattle.sdd_script_text.specs.declared.name.ListName.{ListName}
use Rattle.sdd_script_text.specs.declared.name.ListName.TheVariants as list
use Rattle.sdd_script_model.specs.Containers.{HasNumber}
use Rattle.sdd_script_model.specs.Listed.{AreNumbers, Begins}
use Rattle.sdd_script_model.specs.Queues.{DrainsQueue, Enqueues, TakesOldest}
use Rattle.sdd_script_model.specs.Stacks.{Drains, IsOwnedEnough, Pushes, RefusesEntry, Takes}
use Rattle.sdd_script_model.specs.Val.{Val, link_of}
use Rattle.sdd_script_model.specs.declared.val.Body.{Body}
use Rattle.sdd_interpreter.specs.declared.holding.AnyList.{AnyList}
use Rattle.sdd_interpreter.specs.declared.holding.AnyList.TheVariants as any

-- the cell in which a container begins
abbrev pub list_cell : AnyList → ℕ
list_cell (any.Queue queue) = (cells_in queue.now).oldest
list_cell (any.Stack stack) = stacks.cell_in stack.now

-- its cells are of this home
abbrev pub IsListOf : units.GhostName → AnyList → Type 0
IsListOf home (any.Queue queue) = AreOfCells home queue.now
IsListOf home (any.Stack stack) = stacks.home_in stack.now ≡ home

-- a name stands for nothing among these, or for this container
abbrev pub NamesNone : List (Option (Queue Body)) → List (Option (Stack Body)) → ListName → Type 0
NamesNone queues stacks (list.Queue q) = None ≡ slice_index_or queues q.0 None
NamesNone queues stacks (list.Stack s) = None ≡ slice_index_or stacks s.0 None

abbrev pub StandsFor : List (Option (Queue Body)) → List (Option (Stack Body)) → ListName → AnyList → Type 0
StandsFor queues stacks (list.Queue q) (any.Queue queue) = Some queue.now ≡ slice_index_or queues q.0 None
StandsFor queues stacks (list.Stack s) (any.Stack stack) = Some stack.now ≡ slice_index_or stacks s.0 None
StandsFor queues stacks name other = ⊥

-- a container has these entries, and the second cell of a queue holds this
abbrev pub HasEntries : World Val → AnyList → List (Entry Val) → Option ℕ → Type 0
HasEntries w (any.Queue queue) es second = IsQueue link_of w (cells_in queue.now) es second
HasEntries w (any.Stack stack) es second = Begins w (stacks.cell_in stack.now) es

-- it has numbers
abbrev pub IsOfNumbers : World Val → AnyList → Type 0
IsOfNumbers w x = (es : List (Entry Val)) × (second : Option ℕ) × HasEntries w x es second × AreNumbers es

-- the value of its newest entry that isn't deleted, if there is one
abbrev pub newest_value : AnyList → List (Entry Val) → Option Val
newest_value (any.Queue queue) es = last_value es
newest_value (any.Stack stack) es = first_value (left es)

-- p puts the number among its entries, as the item in slot k
abbrev pub PutsOn : World Val → ℕ → AnyList → List (Entry Val) → Option ℕ → (number k : ℕ) → World Val → Type 0
PutsOn w p (any.Queue queue) es second number k new = Enqueues w p (cells_in queue.now) es second number k new
PutsOn w p (any.Stack stack) es second number k new = Pushes w p (stacks.cell_in stack.now) es number k new

-- p takes out its first entry that isn't deleted
abbrev pub TakesOff : World Val → ℕ → AnyList → List (Entry Val) → Option ℕ → Entry Val → World Val → Type 0
TakesOff w p (any.Queue queue) es second e new = TakesOldest w p (cells_in queue.now) es second e new
TakesOff w p (any.Stack stack) es second e new = Takes w p (stacks.cell_in stack.now) es e new

-- p lets go of its entries, each of which is deleted
abbrev pub DrainsList : World Val → ℕ → AnyList → List (Entry Val) → Option ℕ → World Val → Type 0
DrainsList w p (any.Queue queue) es second new = DrainsQueue w p (cells_in queue.now) es second new
DrainsList w p (any.Stack stack) es second new = Drains w p (stacks.cell_in stack.now) es new

-- a push of the number
abbrev pub PushesNumber : units.GhostName → World Val → ℕ → AnyList → List (Entry Val) → Option ℕ → ℕ → Result (Shared Val) Refused → World Val → Type 0
PushesNumber home w p x es second number (Ok owner) new = (slots_home owner ≡ home) × PutsOn w p x es second number (slot_of owner) new
PushesNumber home w p x es second number (Err refused) new = RefusesEntry w refused × (new ≡ w)

-- a pop
abbrev pub PopsOff : units.GhostName → World Val → ℕ → AnyList → List (Entry Val) → Option ℕ → Result (Option (Shared Val)) Refused → World Val → Type 0
PopsOff home w p x es second (Ok None) new = DrainsList w p x es second new
PopsOff home w p x es second (Ok (Some owner)) new =
    (slots_home owner ≡ home) × ((e : Entry Val) × (slot_of owner ≡ e.slot) × TakesOff w p x es second e new)
PopsOff home w p x es second (Err refused) new = IsOwnedEnough w es × (refused ≡ TooManyOwners) × (new ≡ w)

-- the value is the number that is asked for, if one is
abbrev pub IsAsked : Option Val → Option ℕ → Type 0
IsAsked v None = Unit {0}
IsAsked v (Some m) = HasNumber v m

-- a push of the number, if the newest that isn't deleted is m, where that is asked
abbrev pub PushesIf : units.GhostName → World Val → ℕ → AnyList → List (Entry Val) → Option ℕ → ℕ → Option ℕ → Result (Shared Val) (Option Refused) →
    World Val → Type 0
PushesIf home w p x es second number m (Ok owner) new = IsAsked (newest_value x es) m × PushesNumber home w p x es second number (Ok owner) new
PushesIf home w p x es second number m (Err None) new = ¬ (IsAsked (newest_value x es) m) × (new ≡ w)
PushesIf home w p x es second number m (Err (Some refused)) new = IsAsked (newest_value x es) m × PushesNumber home w p x es second number (Err refused) new

-- a pop, if the first that isn't deleted is m, where that is asked
abbrev pub PopsIf : units.GhostName → World Val → ℕ → AnyList → List (Entry Val) → Option ℕ → Option ℕ → Result (Option (Shared Val)) (Unpopped Body) →
    World Val → Type 0
PopsIf home w p x es second m (Ok None) new = PopsOff home w p x es second (Ok None) new
PopsIf home w p x es second m (Ok (Some owner)) new = IsAsked (first_value (left es)) m × PopsOff home w p x es second (Ok (Some owner)) new
-- it is kept, and there is one owner more of it
PopsIf home w p x es second m (Err (Kept owner)) new =
    ¬ (IsAsked (first_value (left es)) m) × (slots_home owner ≡ home) × ((e : Entry Val) × (rest : List (Entry Val)) × (left es ≡ e ∷ rest)
    × (slot_of owner ≡ e.slot) × ((owners : ℕ) × IsSharedBy owners (standing_at w e.slot) × (owners < 2 ^ 62)
    × (new ≡ with_standing w e.slot (shared_by (owners + 1)))))
PopsIf home w p x es second m (Err (RefusedBy why)) new = PopsOff home w p x es second (Err why) new

-- Copies of queues and stacks: what there is before one, and what one leaves
use Rattle.std.specs.Prelude.{ℕ, ◌≡◌, ◌<◌, ◌≤◌, ◌++◌, ◌∷◌, false, not, is_some, List, [], Some, Result, Ok, Err, length, slice_index_or}
use Rattle.std.specs.Vec.{vec_capacity}
use Rattle.sdd_core.specs.declared.refused.Refused.{Refused}
use Rattle.sdd_rights.specs.Units as units
use Rattle.sdd_world_model.specs.Slots.{is_waiting}
use Rattle.sdd_world_model.specs.World.{World, standing_at}
use Rattle.sdd_lists.specs.Lists.{Entry}
use Rattle.sdd_lists.specs.Queue.{AreOfCells}
use Rattle.sdd_lists.specs.Stack as stacks
use Rattle.sdd_script_text.specs.declared.answer.Reply.{Reply}
use Rattle.sdd_script_text.specs.declared.answer.Reply.TheVariants as reply
use Rattle.sdd_script_text.specs.declared.name.ListName.{ListName}
use Rattle.sdd_script_text.specs.declared.name.ListName.TheVariants as list
use Rattle.sdd_script_model.specs.Val.{Val}
use Rattle.sdd_interpreter.specs.Copies.{QueueIsCopied, StackIsCopied}
use Rattle.sdd_interpreter.specs.declared.containers.Lists.{Lists}
use Rattle.sdd_interpreter.specs.declared.holding.AnyList.{AnyList}
use Rattle.sdd_interpreter.specs.declared.holding.AnyList.TheVariants as any
use Rattle.sdd_interpreter.specs.declared.log.Log.{Log}
use Rattle.sdd_script.specs.declared.acts.copies.ListCopy.{ListCopy}
use Rattle.sdd_script.specs.declared.acts.copies.ListCopy.TheVariants as copy
use Rattle.sdd_script.specs.declared.acts.copies.Ready.{Ready}

-- ---- names of lists

-- each name stands for what it stood for
pub record HasSameLists (old new : Lists) : Type 0 where
  pub queues : new.queues.entries.items ≡ old.queues.entries.items
  pub stacks : new.stacks.entries.items ≡ old.stacks.entries.items
  pub bags : new.bags.entries.items ≡ old.bags.entries.items

-- there is room for one name more of this one's kind
abbrev pub HasRoomFor : ListName → Lists → Type 0
HasRoomFor (list.Queue q) lists = length lists.queues.entries.items < vec_capacity lists.queues.entries
HasRoomFor (list.Stack s) lists = length lists.stacks.entries.items < vec_capacity lists.stacks.entries

-- the next name of a copy's kind
abbrev pub next_name : Lists → ListCopy → ListName
next_name lists (copy.Queue queue) = list.Queue (record { 0 = length lists.queues.entries.items })
next_name lists (copy.Stack stack) = list.Stack (record { 0 = length lists.stacks.entries.items })

-- the reply that tells a name
abbrev pub named_so : ListName → Reply
named_so (list.Queue q) = reply.Queue q
named_so (list.Stack s) = reply.Stack s

-- a copy stands for the next name of its kind
abbrev pub IsGivenName : Lists → ListCopy → Lists → Type 0
IsGivenName old (copy.Queue queue) new =
    (new.queues.entries.items ≡ old.queues.entries.items ++ Some queue ∷ []) × (new.stacks.entries.items ≡ old.stacks.entries.items)
    × (new.bags.entries.items ≡ old.bags.entries.items)
IsGivenName old (copy.Stack stack) new =
    (new.queues.entries.items ≡ old.queues.entries.items) × (new.stacks.entries.items ≡ old.stacks.entries.items ++ Some stack ∷ [])
    × (new.bags.entries.items ≡ old.bags.entries.items)

-- ---- a copy

-- its cells are of this home
abbrev pub IsCopyOf : units.GhostName → ListCopy → Type 0
IsCopyOf home (copy.Queue queue) = AreOfCells home queue
IsCopyOf home (copy.Stack stack) = stacks.home_in stack ≡ home

-- it is this list
abbrev pub IsListIn : ListCopy → AnyList → Type 0
IsListIn (copy.Queue queue) (any.Queue x) = x.now ≡ queue
IsListIn (copy.Stack stack) (any.Stack x) = x.now ≡ stack
IsListIn made other = ⊥

-- a list with these entries is copied, or that is refused
abbrev pub IsCopied : ℕ → World Val → AnyList → List (Entry Val) → Result ListCopy Refused → World Val → Type 0
IsCopied p w (any.Queue x) es (Ok (copy.Queue queue)) new = QueueIsCopied p w es (Ok queue) new
IsCopied p w (any.Stack x) es (Ok (copy.Stack stack)) new = StackIsCopied p w es (Ok stack) new
IsCopied p w (any.Queue x) es (Err why) new = QueueIsCopied p w es (Err why) new
IsCopied p w (any.Stack x) es (Err why) new = StackIsCopied p w es (Err why) new
IsCopied p w x es other new = ⊥

-- ---- slots

-- there is room for as many items as there are slots, and of each slot it is told whether its item waits, and whether it is free
pub record IsReadyToCopy (log : Log) (w : World Val) (ready : Ready) : Type 0 where
  pub empty : ready.room.items ≡ []
  pub room : length log.names.items ≤ vec_capacity ready.room
  pub waited_long : length ready.waited.items ≡ length log.names.items
  pub waited : (s : ℕ) → s < length log.names.items → slice_index_or ready.waited.items s false ≡ is_waiting (standing_at w s)
  pub free_long : length ready.free.items ≡ length log.names.items
  pub free : (s : ℕ) → s < length log.names.items → slice_index_or ready.free.items s false ≡ not (is_some (standing_at w s))

-- What the lines of a script show of values and cells
use Rattle.std.specs.Prelude.{ℕ, ◌≡◌, List, None, Option, Some, option_map, slice_index, slice_index_or}
use Rattle.std.specs.List.{filter_map}
use Rattle.sdd_participants.specs.declared.standing.CellContents.{CellContents}
use Rattle.sdd_participants.specs.Slab.{entry_at}
use Rattle.sdd_space.specs.Owned as owned
use Rattle.sdd_space.specs.Shared as shared
use Rattle.sdd_world_model.specs.World.{value_at}
use Rattle.sdd_script_text.specs.declared.name.ItemName.{ItemName}
use Rattle.sdd_script_text.specs.declared.name.JobName.{JobName}
use Rattle.sdd_script_text.specs.declared.answer.Reply.{Reply}
use Rattle.sdd_script_text.specs.declared.answer.Reply.TheVariants as reply
use Rattle.sdd_script_model.specs.declared.val.Body.{Body}
use Rattle.sdd_script_model.specs.Val.{Val, body_of}
use Rattle.sdd_script_model.specs.declared.val.Body.TheVariants.{Number, Owned, Shared, Storage}
use Rattle.sdd_script_model.specs.ScriptState.{ScriptState, cell_of, holding_at}

-- the number of an item's name, if it has one
abbrev pub number_in : Option ℕ → ℕ
number_in None = 0
number_in (Some i) = i

-- the item that a slot had last, which had a name
abbrev pub item_in : List (Option ℕ) → ℕ → ItemName
item_in names s = record { 0 = number_in (slice_index_or names s None) }

-- the item that a slot had last, if that had a name
abbrev pub named_in : List (Option ℕ) → ℕ → Option ItemName
named_in names s = option_map (λ i. record { 0 = i }) (slice_index_or names s None)

-- of the items that these slots had last, those that had a name
abbrev pub names_in : List (Option ℕ) → List ℕ → List ItemName
names_in names slots = filter_map (named_in names) slots

-- the job that a place of the table of jobs had last
abbrev pub job_in : List ℕ → ℕ → JobName
job_in deferred k = record { 0 = slice_index deferred k }

-- a body as a reply: its number, or the item that it holds an owner of; a storage tells nothing
abbrev pub told_of : List (Option ℕ) → Body → Reply
told_of names (Number n) = reply.Value n
told_of names (Owned o) = reply.Holding (item_in names (owned.slot_of o))
told_of names (Shared o) = reply.Holding (item_in names (shared.slot_of o))
told_of names (Storage s) = reply.Done

-- the value of the item in slot k, as a reply
abbrev pub RepliesValue : ScriptState → ℕ → Reply → Type 0
RepliesValue d k given = (v : Val) × (value_at d.world k ≡ Some v) × (given ≡ told_of d.names (body_of v))

-- the item that a cell holds, or none
abbrev pub item_held : ScriptState → CellContents → Option ItemName
item_held d cell = option_map (item_in d.names) cell.held

-- the cell of this name is number k, and holds this
pub record IsCell (d : ScriptState) (c k : ℕ) (cell : CellContents) : Type 0 where
  pub named : cell_of (holding_at d.cells c) ≡ Some k
  pub holds : entry_at d.world.cells k ≡ Some cell

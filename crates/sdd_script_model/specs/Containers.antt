-- What the lines on containers of entries tell of these, and ask
use Rattle.std.specs.Prelude.{ℕ, ◌≡◌, List, Option, None, Some}
use Rattle.sdd_script_text.specs.declared.answer.Reply.{Reply}
use Rattle.sdd_script_text.specs.declared.answer.Reply.TheVariants as reply
use Rattle.sdd_script_text.specs.declared.name.ListName.{ListName}
use Rattle.sdd_script_text.specs.declared.name.ListName.TheVariants.{Queue, Stack}
use Rattle.sdd_lists.specs.Ends.{last_value}
use Rattle.sdd_lists.specs.Lists.{Entry, first_value, left}
use Rattle.sdd_lists.specs.Queue.{QueueCells}
use Rattle.sdd_script_model.specs.declared.val.Body.TheVariants.{Number}
use Rattle.sdd_script_model.specs.Queues.{IsNamedQueue}
use Rattle.sdd_script_model.specs.ScriptState.{ScriptState}
use Rattle.sdd_script_model.specs.Stacks.{IsStack}
use Rattle.sdd_script_model.specs.Val.{Val, body_of}

-- the container of this name begins in cell c, and has these entries, in order
abbrev pub IsContainer : ScriptState → ListName → ℕ → List (Entry Val) → Type 0
IsContainer d (Queue q) c es = (cells : QueueCells) × (second : Option ℕ) × IsNamedQueue d q.0 cells es second × (cells.oldest ≡ c)
IsContainer d (Stack s) c es = IsStack d s.0 c es

-- the value is there, and has this number
abbrev pub HasNumber : Option Val → ℕ → Type 0
HasNumber None m = ⊥
HasNumber (Some v) m = body_of v ≡ Number m

-- its number is told, or that it isn't there
abbrev pub TellsNumber : Reply → Option Val → Type 0
TellsNumber reply.Nothing v = v ≡ None
TellsNumber (reply.Value m) v = HasNumber v m
TellsNumber other v = ⊥

-- of the container of this name the newest entry that isn't deleted has this number
abbrev pub HasNewest : ScriptState → ListName → ℕ → Type 0
HasNewest d (Queue q) m = (cells : QueueCells) × (es : List (Entry Val)) × (second : Option ℕ) × IsNamedQueue d q.0 cells es second
    × HasNumber (last_value es) m
HasNewest d (Stack s) m = (c : ℕ) × (es : List (Entry Val)) × IsStack d s.0 c es × HasNumber (first_value (left es)) m

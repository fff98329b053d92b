-- What the lines on stacks make of their entries
use Rattle.std.specs.Prelude.{ℕ, ◌≡◌, ◌<◌, ◌^◌, ◌∷◌, [], List, Some}
use Rattle.sdd_core.specs.declared.refused.Refused.{Refused}
use Rattle.sdd_core.specs.declared.refused.Refused.TheVariants.{NoSlot, NoCell}
use Rattle.sdd_core.specs.declared.tag.Tag.TheVariants.{None as no_tag}
use Rattle.sdd_participants.specs.Slab.{IsEmptyAt, IsFull}
use Rattle.sdd_world_model.specs.Slots.{IsSharedBy}
use Rattle.sdd_world_model.specs.World.{World, standing_at}
use Rattle.sdd_world_model.specs.WorldChanges.{nulled, without_cell}
use Rattle.sdd_lists.specs.StackCloning.{IsAppended}
use Rattle.sdd_lists.specs.Lists.{Entry, IsPushed, emptied, left, popped, trimmed}
use Rattle.sdd_script_model.specs.declared.val.Body.TheVariants.{Number}
use Rattle.sdd_script_model.specs.Val.{Val, body_of, link_of}
use Rattle.sdd_script_model.specs.Listed.{Begins}
use Rattle.sdd_script_model.specs.ScriptState.{ScriptState, holding_at, shared_cell}

-- the stack of this name begins in cell c, and has these entries, the newest first
pub record IsStack (d : ScriptState) (n c : ℕ) (es : List (Entry Val)) : Type 0 where
  pub named : shared_cell (holding_at d.stacks n) ≡ Some c
  pub list : Begins d.world c es

-- p puts the number in front: an entry in slot k has it, and the deleted ones in front are let go of
pub record Pushes (w : World Val) (p c : ℕ) (es : List (Entry Val)) (number k : ℕ) (new : World Val) : Type 0 where
  pub entry : Val
  pub body : body_of entry ≡ Number number
  pub free : IsEmptyAt w.cells (link_of entry)
  pub pushed : IsPushed link_of (nulled w (link_of entry)) p c no_tag es k entry new

-- p puts the number behind the last entry that isn't deleted: an entry in slot k has it, which the list alone owns, and deleted ones there are let go of
pub record Appends (w : World Val) (p c : ℕ) (es : List (Entry Val)) (number k : ℕ) (new : World Val) : Type 0 where
  pub entry : Val
  pub body : body_of entry ≡ Number number
  pub free : IsEmptyAt w.cells (link_of entry)
  pub appended : IsAppended link_of (nulled w (link_of entry)) p c no_tag es k entry new

-- p takes out the first entry that isn't deleted, and has one more owner of it
pub record Takes (w : World Val) (p c : ℕ) (es : List (Entry Val)) (e : Entry Val) (new : World Val) : Type 0 where
  pub rest : List (Entry Val)
  pub first : left es ≡ e ∷ rest
  pub owners : ℕ
  pub shared : IsSharedBy owners (standing_at w e.slot)
  pub few : owners < 2 ^ 62
  pub world : new ≡ popped link_of w p c no_tag es e rest owners

-- the first entry that isn't deleted has as many owners as there may be
pub record IsOwnedEnough (w : World Val) (es : List (Entry Val)) : Type 0 where
  pub entry : Entry Val
  pub rest : List (Entry Val)
  pub first : left es ≡ entry ∷ rest
  pub full : IsSharedBy (2 ^ 62) (standing_at w entry.slot)

-- p lets go of the deleted entries in front, which are all
pub record Drains (w : World Val) (p c : ℕ) (es : List (Entry Val)) (new : World Val) : Type 0 where
  pub none : left es ≡ []
  pub world : new ≡ trimmed link_of w p c no_tag es

-- p lets go of all entries, and the cell is free
abbrev pub stack_closed : World Val → (p c : ℕ) → List (Entry Val) → World Val
stack_closed w p c es = without_cell (emptied link_of w p c no_tag es) c

-- no slot is free, or else no cell
abbrev pub RefusesEntry : World Val → Refused → Type 0
RefusesEntry w NoSlot = IsFull w.standings
RefusesEntry w NoCell = ¬ (IsFull w.standings) × IsFull w.cells
RefusesEntry w other = ⊥

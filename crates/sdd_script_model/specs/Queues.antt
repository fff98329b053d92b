-- What the lines on queues make of their entries
use Rattle.std.specs.Prelude.{ℕ, ◌≡◌, ◌<◌, ◌+◌, ◌^◌, ◌∷◌, [], List, None, Option, Some}
use Rattle.sdd_core.specs.declared.tag.Tag.TheVariants.{None as no_tag}
use Rattle.sdd_participants.specs.Slab.{IsEmptyAt}
use Rattle.sdd_participants.specs.declared.standing.Standing.TheVariants.{Shared as shared_by}
use Rattle.sdd_world_model.specs.Slots.{IsSharedBy}
use Rattle.sdd_world_model.specs.World.{World, standing_at}
use Rattle.sdd_world_model.specs.WorldChanges.{nulled, with_standing}
use Rattle.sdd_lists.specs.Lists.{Entry, left, removed, trimmed}
use Rattle.sdd_lists.specs.Queue.{IsEnqueued, IsQueue, QueueCells, cell_emptied, cell_left, held_left}
use Rattle.sdd_script_model.specs.declared.val.Body.TheVariants.{Number}
use Rattle.sdd_script_model.specs.Val.{Val, body_of, link_of}
use Rattle.sdd_script_model.specs.ScriptState.{ScriptState, holding_at, shared_cell}

-- the queue of this name has these cells and these entries, the oldest first, and its second cell holds this
pub record IsNamedQueue (d : ScriptState) (n : ℕ) (q : QueueCells) (es : List (Entry Val)) (second : Option ℕ) : Type 0 where
  pub oldest : shared_cell (holding_at d.queues n) ≡ Some q.oldest
  pub newest : shared_cell (holding_at d.newest n) ≡ Some q.newest
  pub queue : IsQueue link_of d.world q es second

-- p puts the number behind: an entry in slot k has it, and the deleted ones at the end are let go of
pub record Enqueues (w : World Val) (p : ℕ) (q : QueueCells) (es : List (Entry Val)) (second : Option ℕ) (number k : ℕ) (new : World Val) : Type 0 where
  pub entry : Val
  pub body : body_of entry ≡ Number number
  pub free : IsEmptyAt w.cells (link_of entry)
  pub pushed : IsEnqueued link_of (nulled w (link_of entry)) p q es second k entry new

-- p takes out the first entry that isn't deleted, and has one more owner of it
pub record TakesOldest (w : World Val) (p : ℕ) (q : QueueCells) (es : List (Entry Val)) (second : Option ℕ) (e : Entry Val) (new : World Val) : Type 0 where
  pub rest : List (Entry Val)
  pub first : left es ≡ e ∷ rest
  pub owners : ℕ
  pub shared : IsSharedBy owners (standing_at w e.slot)
  pub few : owners < 2 ^ 62
  pub world : new ≡ removed link_of (cell_left (with_standing w e.slot (shared_by (owners + 1))) p q.newest second es) p q.oldest no_tag es e rest
  pub queue : IsQueue link_of new q rest (held_left second es)

-- p lets go of the deleted entries in front, which are all
pub record DrainsQueue (w : World Val) (p : ℕ) (q : QueueCells) (es : List (Entry Val)) (second : Option ℕ) (new : World Val) : Type 0 where
  pub none : left es ≡ []
  pub world : new ≡ trimmed link_of (cell_emptied w p q.newest second) p q.oldest no_tag es
  pub queue : IsQueue link_of new q [] None

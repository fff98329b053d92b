-- A copy of a queue or a stack, and what is left of one that is refused
use Rattle.std.specs.Prelude.{ℕ, ◌≡◌, ◌≢◌, ◌⊎◌, ◌++◌, ◌∷◌, ◌&&◌, [], List, None, Option, is_some, length, map, not, if◌then◌else◌}
use Rattle.sdd_core.specs.declared.refused.Refused.{Refused}
use Rattle.sdd_core.specs.declared.refused.Refused.TheVariants.{NoCell}
use Rattle.sdd_core.specs.declared.tag.Tag.TheVariants.{None as no_tag}
use Rattle.sdd_participants.specs.Slab.{IsEmptyAt, IsFull}
use Rattle.sdd_world_model.specs.World.{World, standing_at}
use Rattle.sdd_world_model.specs.WorldChanges.{nulled}
use Rattle.sdd_lists.specs.Lists.{Entry}
use Rattle.sdd_lists.specs.Queue.{HasOneAtMost, QueueCells, queue_closed}
use Rattle.sdd_lists.specs.QueueFilling.{FillsQueue}
use Rattle.sdd_lists.specs.StackCloning.{ExtendsStack}
use Rattle.sdd_lists.specs.Walk.{shown_of}
use Rattle.sdd_script_model.specs.declared.val.Body.{Body}
use Rattle.sdd_script_model.specs.Queues.{IsNamedQueue}
use Rattle.sdd_script_model.specs.ScriptState.{ScriptState, Leaves, in_world, name_at, with_items, with_queue, with_stack}
use Rattle.sdd_script_model.specs.Stacks.{IsStack, RefusesEntry, stack_closed}
use Rattle.sdd_script_model.specs.Val.{Val, link_of}

-- none of these is marked or deleted
abbrev pub ArePlain : List (Entry Val) → Type 0
ArePlain [] = Unit {0}
ArePlain (e ∷ es) = (e.tag ≡ no_tag) × ArePlain es

-- the slots of entries, in order
abbrev pub entry_slots : List (Entry Val) → List ℕ
entry_slots es = map (λ (e : Entry Val). e.slot) es

-- p fills a new queue in these cells, which were free, with these values; it has the entries es then
pub record MakesQueueOf (w : World Val) (p : ℕ) (values : List Body) (q : QueueCells) (es : List (Entry Val)) (held : Option ℕ) (new : World Val) : Type 0 where
  pub oldest : IsEmptyAt w.cells q.oldest
  pub newest : IsEmptyAt w.cells q.newest
  pub two : q.oldest ≢ q.newest
  pub fills : FillsQueue p q (nulled (nulled w q.oldest) q.newest) [] None values new es held

-- p fills a new stack in this cell, which was free, with these values
pub record MakesStackOf (w : World Val) (p : ℕ) (values : List Body) (c : ℕ) (es : List (Entry Val)) (new : World Val) : Type 0 where
  pub free : IsEmptyAt w.cells c
  pub fills : ExtendsStack p c (nulled w c) [] values new es

-- the next queue has the values of this one, and its items the next names, in order; no owner of them has one
abbrev pub CopiesQueue : ScriptState → (p q r : ℕ) → ScriptState → Type 0
CopiesQueue d p q r new =
    (r ≡ length d.queues) × ((from : QueueCells) × (es : List (Entry Val)) × (second : Option ℕ) × (cells : QueueCells) × (fs : List (Entry Val))
    × (held : Option ℕ) × (w : World Val) × IsNamedQueue d q from es second × MakesQueueOf d.world p (shown_of es) cells fs held w
    × Leaves (in_world (with_items (with_queue d cells.oldest cells.newest) (entry_slots fs)) w) new)

-- and so with stacks
abbrev pub CopiesStack : ScriptState → (p s r : ℕ) → ScriptState → Type 0
CopiesStack d p s r new =
    (r ≡ length d.stacks) × ((from : ℕ) × (es : List (Entry Val)) × (c : ℕ) × (fs : List (Entry Val)) × (w : World Val)
    × IsStack d s from es × MakesStackOf d.world p (shown_of es) c fs w
    × Leaves (in_world (with_items (with_stack d c) (entry_slots fs)) w) new)

-- the item of each slot that was free and isn't any more has no name
pub record LosesNames (old new : ScriptState) : Type 0 where
  pub names : (s : ℕ) → name_at new s
      ≡ (if is_some (standing_at new.world s) && not (is_some (standing_at old.world s)) then None else name_at old s)
  pub long : length new.names ≡ length old.names

-- the world is this, and such items have no names
abbrev pub LeavesUnnamed : ScriptState → World Val → ScriptState → Type 0
LeavesUnnamed d w new = (new ≡ record d { world = w; names = new.names; dates = new.dates }) × LosesNames d new

-- a copy is refused: no two cells are free; or the next of the values finds no slot, or else no cell, and what was built of those before is closed
abbrev pub RefusesQueueCopy : ScriptState → (p q : ℕ) → Refused → ScriptState → Type 0
RefusesQueueCopy d p q why new =
    HasOneAtMost d.world.cells × (why ≡ NoCell) × (new ≡ d)
    ⊎ ((from : QueueCells) × (es : List (Entry Val)) × (second : Option ℕ) × (cells : QueueCells) × (fs : List (Entry Val)) × (held : Option ℕ)
    × (w : World Val) × (first : List Body) × (next : Body) × (others : List Body) × IsNamedQueue d q from es second
    × (shown_of es ≡ first ++ next ∷ others) × MakesQueueOf d.world p first cells fs held w × RefusesEntry w why
    × LeavesUnnamed d (queue_closed link_of w p cells fs held) new)

abbrev pub RefusesStackCopy : ScriptState → (p s : ℕ) → Refused → ScriptState → Type 0
RefusesStackCopy d p s why new =
    IsFull d.world.cells × (why ≡ NoCell) × (new ≡ d)
    ⊎ ((from : ℕ) × (es : List (Entry Val)) × (c : ℕ) × (fs : List (Entry Val)) × (w : World Val) × (first : List Body) × (next : Body)
    × (others : List Body) × IsStack d s from es × (shown_of es ≡ first ++ next ∷ others) × MakesStackOf d.world p first c fs w × RefusesEntry w why
    × LeavesUnnamed d (stack_closed w p c fs) new)

-- Where a queue is, and what the calls make of it
use Rattle.std.specs.Prelude.{ℕ, ◌+◌, ◌^◌, ◌≡◌, ◌≢◌, ◌⊎◌, ◌<◌, ◌==◌, Bool, true, false, List, [], ◌∷◌, ◌++◌, Option, None, Some, Result, Ok, Err, if◌then◌else◌}
use Rattle.sdd_core.specs.declared.tag.Tag.TheVariants as tag
use Rattle.sdd_core.specs.declared.refused.Refused.{Refused}
use Rattle.sdd_world_model.specs.World.{World, standing_at, value_at}
use Rattle.sdd_space.specs.Shared.{cell_of, cells_home, slot_of}
use Rattle.sdd_world_model.specs.WorldChanges.{made_as, nulled, spilled, with_cell, with_standing, without_cell}
use Rattle.sdd_space.specs.Shared.{Shared}
use Rattle.sdd_world_model.specs.Slots.{IsSharedBy}
use Rattle.sdd_participants.specs.Slab.{Entries, IsEmptyAt, entry_at}
use Rattle.sdd_participants.specs.declared.standing.Standing.TheVariants.{Shared as shared_by}
use Rattle.sdd_rights.specs.Units as units
use Rattle.sdd_lists.specs.declared.linked_entry.LinkedEntry.{LinkedEntry}
use Rattle.sdd_lists.specs.declared.queue.Queue.{Queue}
use Rattle.sdd_lists.specs.declared.unpopped.Unpopped.{Unpopped}
use Rattle.sdd_lists.specs.declared.unpopped.Unpopped.TheVariants.{Kept, Refused as RefusedBy}
use Rattle.sdd_lists.specs.Ends.{IsAmong, appended, through_last}
use Rattle.sdd_lists.specs.Entries.{link_of, value_of}
use Rattle.sdd_lists.specs.Lists.{Apart, Entry, IsCrowded, IsKept, IsList, emptied, is_deleted, left, removed, trimmed}

-- the numbers of a queue's cells: the list begins in the first, and the second owns the newest entry once more
pub record QueueCells : Type 0 where
  pub oldest : ℕ
  pub newest : ℕ

-- no two cells are free
abbrev pub HasOneAtMost : {E : Type 0} → Entries E → Type 0
HasOneAtMost t = (c d : ℕ) → IsEmptyAt t c → IsEmptyAt t d → c ≡ d

module _ {T : Type 0} where
  abbrev pub cells_in : Queue T → QueueCells
  cells_in queue = record { oldest = cell_of queue.oldest; newest = cell_of queue.newest }

  -- both cells are of these
  pub record AreOfCells (home : units.GhostName) (queue : Queue T) : Type 0 where
    pub oldest : cells_home queue.oldest ≡ home
    pub newest : cells_home queue.newest ≡ home

module _ {T : Type 0} where
  -- what a cell holds is this entry
  abbrev pub is_at : Option ℕ → Entry T → Bool
  is_at None e = false
  is_at (Some k) e = e.slot == k

  -- a pop of these lets go of what the cell holds: of the deleted entries in front, and of the first that isn't
  abbrev pub lets_go_of : Option ℕ → List (Entry T) → Bool
  lets_go_of held [] = false
  lets_go_of held (e ∷ es) = if is_at held e then true else (if is_deleted e then lets_go_of held es else false)

  -- cell c, which held this, holds nothing, and p is given it
  abbrev pub cell_emptied : World T → (p c : ℕ) → Option ℕ → World T
  cell_emptied w p c held = spilled (nulled w c) p held

  -- the same where a pop of these lets go of what the cell held
  abbrev pub cell_left : World T → (p c : ℕ) → Option ℕ → List (Entry T) → World T
  cell_left w p c held es = if lets_go_of held es then cell_emptied w p c held else w

  -- what the cell holds then
  abbrev pub held_left : Option ℕ → List (Entry T) → Option ℕ
  held_left held es = if lets_go_of held es then None else held

  -- the entry in slot k is new, and has three owners: the list, the second cell, which gives p what it held, and one more
  abbrev pub made_newest : World T → (p c k : ℕ) → T → Option ℕ → World T
  made_newest w p c k value held = spilled (with_cell (made_as w k value (shared_by 3)) c (record { held = Some k; tag = tag.None })) p held

module _ {T : Type 0} (link : T → ℕ) where
  -- a list has let go of the entry in slot k, which is deleted, and whose link holds nothing
  pub record IsLetGo (w : World T) (k : ℕ) : Type 0 where
    pub value : T
    pub there : value_at w k ≡ Some value
    pub bare : entry_at w.cells (link value) ≡ Some (record { held = None; tag = tag.Second })

  -- nothing, or the slot of one of these, or of one that the list has let go of
  abbrev pub IsSecond : World T → Option ℕ → List (Entry T) → Type 0
  IsSecond w None es = Unit {0}
  IsSecond w (Some k) es = IsAmong k es ⊎ IsLetGo w k

  -- the queue has these entries, the oldest first, and its second cell holds this
  pub record IsQueue (w : World T) (q : QueueCells) (es : List (Entry T)) (second : Option ℕ) : Type 0 where
    pub list : IsList link w q.oldest tag.None es
    pub newest : entry_at w.cells q.newest ≡ Some (record { held = second; tag = tag.None })
    pub among : IsSecond w second es
    -- the second cell is neither the first nor the link of an entry
    pub two : q.oldest ≢ q.newest
    pub apart : Apart link q.newest es

  -- p pushed the value behind the last entry that isn't deleted: it is in slot k, which was free
  pub record IsEnqueued (w : World T) (p : ℕ) (q : QueueCells) (es : List (Entry T)) (second : Option ℕ) (k : ℕ) (value : T) (new : World T) : Type 0 where
    pub free : IsEmptyAt w.standings k
    pub world : new ≡ appended link (made_newest w p q.newest k value second) p q.oldest tag.None es (link value) k
    pub queue : IsQueue new q (through_last es ++ record { slot = k; value = value; tag = tag.None } ∷ []) (Some k)

  -- p took the entry e out of the queue es, which is then rest, and has an owner of it
  pub record IsDequeued (w : World T) (p : ℕ) (q : QueueCells) (es : List (Entry T)) (second : Option ℕ) (e : Entry T) (rest : List (Entry T))
      (owner : Shared T) (new : World T) : Type 0 where
    pub slot : slot_of owner ≡ e.slot
    pub owners : ℕ
    pub shared : IsSharedBy owners (standing_at w e.slot)
    pub few : owners < 2 ^ 62
    pub world : new ≡ removed link (cell_left (with_standing w e.slot (shared_by (owners + 1))) p q.newest second es) p q.oldest tag.None es e rest
    pub queue : IsQueue new q rest (held_left second es)

  -- p let go of the queue es, whose entries were deleted all
  pub record IsCleared (w : World T) (p : ℕ) (q : QueueCells) (es : List (Entry T)) (second : Option ℕ) (new : World T) : Type 0 where
    pub none : left es ≡ []
    pub world : new ≡ trimmed link (cell_emptied w p q.newest second) p q.oldest tag.None es
    pub queue : IsQueue new q [] None

  -- what a pop answers of the queue es, and what is there then
  abbrev pub Dequeues : World T → ℕ → QueueCells → List (Entry T) → Option ℕ → Result (Option (Shared T)) Refused → World T → Type 0
  Dequeues w p q es second (Ok None) new = IsCleared w p q es second new
  Dequeues w p q es second (Ok (Some owner)) new =
      (e : Entry T) × (rest : List (Entry T)) × (left es ≡ e ∷ rest) × IsDequeued w p q es second e rest owner new
  Dequeues w p q es second (Err why) new = (e : Entry T) × (rest : List (Entry T)) × (left es ≡ e ∷ rest) × IsCrowded w e why new

  -- p lets go of the whole queue, of the second cell's owner first, and both cells are free
  abbrev pub queue_closed : World T → ℕ → QueueCells → List (Entry T) → Option ℕ → World T
  queue_closed w p q es second =
      without_cell (emptied link (spilled (without_cell w q.newest) p second) p q.oldest tag.None es) q.oldest

module _ {T : Type 0} where
  -- p pushed the value onto the queue of these entries: a new entry has it, whose link is a cell that was free, and the owner is of that entry
  pub record PushesBehind (w : World (LinkedEntry T)) (p : ℕ) (q : QueueCells) (es : List (Entry (LinkedEntry T))) (second : Option ℕ) (pushed : T)
      (owner : Shared (LinkedEntry T)) (new : World (LinkedEntry T)) : Type 0 where
    pub entry : LinkedEntry T
    pub value : value_of entry ≡ pushed
    pub link : IsEmptyAt w.cells (link_of entry)
    pub queue : IsEnqueued link_of (nulled w (link_of entry)) p q es second (slot_of owner) entry new

  -- what a pop of the queue of these entries answers that asks a condition of the first one that is left, and what is there then
  abbrev pub DequeuesIf : (LinkedEntry T → Bool → Type 0) → World (LinkedEntry T) → ℕ → QueueCells → List (Entry (LinkedEntry T)) → Option ℕ →
      Result (Option (Shared (LinkedEntry T))) (Unpopped T) → World (LinkedEntry T) → Type 0
  DequeuesIf asked w p q es second (Ok None) new = IsCleared link_of w p q es second new
  DequeuesIf asked w p q es second (Ok (Some owner)) new =
      (e : Entry (LinkedEntry T)) × (rest : List (Entry (LinkedEntry T))) × (left es ≡ e ∷ rest) × asked e.value true ×
      IsDequeued link_of w p q es second e rest owner new
  DequeuesIf asked w p q es second (Err (Kept owner)) new =
      (e : Entry (LinkedEntry T)) × (rest : List (Entry (LinkedEntry T))) × (left es ≡ e ∷ rest) × asked e.value false × IsKept w e owner new
  DequeuesIf asked w p q es second (Err (RefusedBy why)) new =
      (e : Entry (LinkedEntry T)) × (rest : List (Entry (LinkedEntry T))) × (left es ≡ e ∷ rest) × IsCrowded w e why new

-- Queues that are filled by an iterator
use Rattle.std.specs.Prelude.{ℕ, ◌≡◌, ◌≢◌, List, [], ◌∷◌, ◌++◌, Option, None, Some, Result, Ok, Err}
use Rattle.std.specs.Iterator.{YieldsThen}
use Rattle.sdd_core.specs.declared.refused.Refused.TheVariants.{NoCell}
use Rattle.sdd_core.specs.declared.tag.Tag.TheVariants as tag
use Rattle.sdd_participants.specs.Slab.{IsEmptyAt}
use Rattle.sdd_world_model.specs.World.{World, standing_at}
use Rattle.sdd_world_model.specs.WorldChanges.{nulled, owner_given}
use Rattle.sdd_space.specs.Shared.{slot_of}
use Rattle.sdd_space.specs.Shared.{Shared}
use Rattle.sdd_lists.specs.declared.linked_entry.LinkedEntry.{LinkedEntry}
use Rattle.sdd_lists.specs.declared.queue.Queue.{Queue}
use Rattle.sdd_lists.specs.declared.unfinished.Unfinished.{Unfinished}
use Rattle.sdd_lists.specs.declared.unfinished.Unfinished.TheVariants.{NotBegun, Part}
use Rattle.sdd_lists.specs.Ends.{through_last}
use Rattle.sdd_lists.specs.Entries.{link_of}
use Rattle.sdd_lists.specs.Filling.{RefusesPush}
use Rattle.sdd_lists.specs.Lists.{Entry}
use Rattle.sdd_lists.specs.Queue.{HasOneAtMost, IsQueue, PushesBehind, QueueCells, cells_in}
use Rattle.sdd_lists.specs.Walk.{shown_of}

module _ {T : Type 0} where
  -- p pushed the value onto the queue of these entries, and gave up the owner that it was answered
  pub record AddsBehind (w : World (LinkedEntry T)) (p : ℕ) (q : QueueCells) (es : List (Entry (LinkedEntry T))) (second : Option ℕ) (value : T)
      (new : World (LinkedEntry T)) (fs : List (Entry (LinkedEntry T))) (held : Option ℕ) : Type 0 where
    pub owner : Shared (LinkedEntry T)
    pub between : World (LinkedEntry T)
    pub pushes : PushesBehind w p q es second value owner between
    pub world : new ≡ owner_given between p (slot_of owner) (standing_at between (slot_of owner))
    pub entries : fs ≡ through_last es ++ record { slot = slot_of owner; value = pushes.entry; tag = tag.None } ∷ []
    pub newest : held ≡ Some (slot_of owner)
    pub queue : IsQueue link_of new q fs held

  -- p did so with these values, one after another
  pub data AddsAllBehind (p : ℕ) (q : QueueCells) (w : World (LinkedEntry T)) (es : List (Entry (LinkedEntry T))) (second : Option ℕ) : List T →
      World (LinkedEntry T) → List (Entry (LinkedEntry T)) → Option ℕ → Type 0 where
    begins_behind : AddsAllBehind p q w es second [] w es second
    adds_behind : (xs : List T) (v new : World (LinkedEntry T)) (fs gs : List (Entry (LinkedEntry T))) (held holds : Option ℕ) (x : T) →
        AddsAllBehind p q w es second xs v fs held → AddsBehind v p q fs held x new gs holds →
        AddsAllBehind p q w es second (xs ++ x ∷ []) new gs holds

  -- the queue of these entries was filled with values, and has them at its end, in order
  pub record FillsQueue (p : ℕ) (q : QueueCells) (w : World (LinkedEntry T)) (es : List (Entry (LinkedEntry T))) (second : Option ℕ) (xs : List T)
      (new : World (LinkedEntry T)) (fs : List (Entry (LinkedEntry T))) (held : Option ℕ) : Type 0 where
    pub all : AddsAllBehind p q w es second xs new fs held
    pub queue : IsQueue link_of new q fs held
    pub values : shown_of fs ≡ shown_of es ++ xs

  -- what was built, all or in part
  abbrev pub queue_of : Result (Queue T) (Unfinished (Queue T) T) → Option (Queue T)
  queue_of (Ok queue) = Some queue
  queue_of (Err (NotBegun why)) = None
  queue_of (Err (Part queue item why)) = Some queue

module _ {I T : Type 0} (next : I → Option T → I → Type 0) where
  -- the iterator gave values until it ended, with which the queue in these cells is filled, which were free
  pub record BuildsQueue (p : ℕ) (w : World (LinkedEntry T)) (q : QueueCells) (start end : I) (last : Option T) (new : World (LinkedEntry T)) : Type 0 where
    pub oldest : IsEmptyAt w.cells q.oldest
    pub newest : IsEmptyAt w.cells q.newest
    pub two : q.oldest ≢ q.newest
    pub given : List T
    pub gives : YieldsThen next start given last end
    pub entries : List (Entry (LinkedEntry T))
    pub held : Option ℕ
    pub fills : FillsQueue p q (nulled (nulled w q.oldest) q.newest) [] None given new entries held

  -- what is answered where a queue is built of what an iterator gives
  abbrev pub BuildsInOrder : ℕ → World (LinkedEntry T) → I → Result (Queue T) (Unfinished (Queue T) T) → I → World (LinkedEntry T) → Type 0
  BuildsInOrder p w start (Ok queue) end new = BuildsQueue p w (cells_in queue) start end None new
  BuildsInOrder p w start (Err (NotBegun why)) end new = HasOneAtMost w.cells × (why ≡ NoCell) × (end ≡ start) × (new ≡ w)
  BuildsInOrder p w start (Err (Part queue None why)) end new = ⊥
  BuildsInOrder p w start (Err (Part queue (Some item) why)) end new =
      BuildsQueue p w (cells_in queue) start end (Some item) new × RefusesPush new why

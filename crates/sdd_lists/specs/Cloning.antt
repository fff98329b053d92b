-- Clones of queues
use Rattle.std.specs.Prelude.{ℕ, ◌≡◌, ◌≢◌, ◌⊎◌, List, [], ◌∷◌, ◌++◌, Option, None, Some, Result, Ok, Err}
use Rattle.std.specs.List.{AllZip}
use Rattle.sdd_core.specs.declared.refused.Refused.{Refused}
use Rattle.sdd_core.specs.declared.refused.Refused.TheVariants.{NoCell, NoMemory}
use Rattle.sdd_participants.specs.Slab.{IsEmptyAt, IsFull}
use Rattle.sdd_world_model.specs.World.{World}
use Rattle.sdd_world_model.specs.WorldChanges.{nulled}
use Rattle.sdd_lists.specs.declared.linked_entry.LinkedEntry.{LinkedEntry}
use Rattle.sdd_lists.specs.declared.queue.Queue.{Queue}
use Rattle.sdd_lists.specs.declared.unfinished.Unfinished.{Unfinished}
use Rattle.sdd_lists.specs.declared.unfinished.Unfinished.TheVariants.{NotBegun, Part}
use Rattle.sdd_lists.specs.Ends.{IsAmong}
use Rattle.sdd_lists.specs.Entries.{link_of}
use Rattle.sdd_lists.specs.Filling.{RefusesPush}
use Rattle.sdd_lists.specs.Lists.{Apart, Entry}
use Rattle.sdd_lists.specs.Queue.{HasOneAtMost, IsLetGo, IsQueue, QueueCells, cells_in}
use Rattle.sdd_lists.specs.QueueFilling.{FillsQueue}
use Rattle.sdd_lists.specs.Walk.{shown_of}

module _ {T : Type 0} (is_clone : T → T → Type 0) (is_infallible : T → Type 0) where
  -- a push of a clone is refused, the lowest reason first
  abbrev pub RefusesClone : World (LinkedEntry T) → T → Refused → Type 0
  RefusesClone w u why = RefusesPush w why ⊎
      ¬ (IsFull w.standings) × ¬ (IsFull w.cells) × (why ≡ NoMemory) × ¬ (is_infallible u)

  -- the queue in these cells, which were free, is filled with clones of the first of what the queue of these entries shows, which is as before;
  -- the others are left
  pub record ClonesQueue (p : ℕ) (w : World (LinkedEntry T)) (from q : QueueCells) (es : List (Entry (LinkedEntry T))) (second : Option ℕ)
      (others : List T) (new : World (LinkedEntry T)) : Type 0 where
    pub oldest : IsEmptyAt w.cells q.oldest
    pub newest : IsEmptyAt w.cells q.newest
    pub two : q.oldest ≢ q.newest
    pub first : List T
    pub parts : shown_of es ≡ first ++ others
    pub clones : List T
    pub are : AllZip is_clone first clones
    pub entries : List (Entry (LinkedEntry T))
    pub held : Option ℕ
    pub fills : FillsQueue p q (nulled (nulled w q.oldest) q.newest) [] None clones new entries held
    pub kept : IsQueue link_of new from es second

  -- what a clone of the queue of these entries answers, and what is there then
  abbrev pub Clones : ℕ → World (LinkedEntry T) → QueueCells → List (Entry (LinkedEntry T)) → Option ℕ → Result (Queue T) (Unfinished (Queue T) T) →
      World (LinkedEntry T) → Type 0
  Clones p w from es second (Ok queue) new = ClonesQueue p w from (cells_in queue) es second [] new
  Clones p w from es second (Err (NotBegun why)) new = HasOneAtMost w.cells × (why ≡ NoCell) × (new ≡ w)
  Clones p w from es second (Err (Part queue item why)) new =
      (item ≡ None) × (u : T) × (us : List T) × ClonesQueue p w from (cells_in queue) es second (u ∷ us) new × RefusesClone new u why

module _ {T : Type 0} where
  -- the cell is none of a queue's, and the link of none of its entries
  pub record IsBeside (l : ℕ) (q : QueueCells) (fs : List (Entry (LinkedEntry T))) : Type 0 where
    pub oldest : l ≢ q.oldest
    pub newest : l ≢ q.newest
    pub apart : Apart link_of l fs

  -- nor is the link of the entry in slot k, which is one of these, or was let go of
  abbrev pub IsSecondBeside : World (LinkedEntry T) → Option ℕ → List (Entry (LinkedEntry T)) → QueueCells → List (Entry (LinkedEntry T)) → Type 0
  IsSecondBeside w None es q fs = Unit {0}
  IsSecondBeside w (Some k) es q fs = IsAmong k es ⊎ ((gone : IsLetGo link_of w k) × IsBeside (link_of gone.value) q fs)

  -- no link of these entries is
  abbrev pub AreBeside : List (Entry (LinkedEntry T)) → QueueCells → List (Entry (LinkedEntry T)) → Type 0
  AreBeside [] q fs = Unit {0}
  AreBeside (e ∷ es) q fs = IsBeside (link_of e.value) q fs × AreBeside es q fs

  -- the other queue has these entries, and neither of its cells nor a link of them is this queue's
  pub record IsQueueBeside (w : World (LinkedEntry T)) (from : QueueCells) (es : List (Entry (LinkedEntry T))) (second : Option ℕ) (q : QueueCells)
      (fs : List (Entry (LinkedEntry T))) : Type 0 where
    pub queue : IsQueue link_of w from es second
    pub oldest : IsBeside from.oldest q fs
    pub newest : IsBeside from.newest q fs
    pub links : AreBeside es q fs
    pub second_one : IsSecondBeside w second es q fs

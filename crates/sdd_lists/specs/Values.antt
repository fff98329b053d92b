-- The values in a queue, and in a stack
use Rattle.std.specs.Prelude.{ℕ, ◌≡◌, List, Option}
use Rattle.sdd_world_model.specs.World.{World, standing_at}
use Rattle.sdd_world_model.specs.WorldChanges.{owner_given}
use Rattle.sdd_lists.specs.declared.linked_entry.LinkedEntry.{LinkedEntry}
use Rattle.sdd_lists.specs.declared.queue.Queue.{Queue}
use Rattle.sdd_lists.specs.declared.stack.Stack.{Stack}
use Rattle.sdd_lists.specs.Entries.{link_of}
use Rattle.sdd_lists.specs.Lists.{Entry}
use Rattle.sdd_lists.specs.Queue.{IsQueue, cells_in}
use Rattle.sdd_lists.specs.Stack.{IsStack, cell_in}
use Rattle.sdd_lists.specs.Walk.{shown_of}

module _ {T : Type 0} where
  -- these are the values of the queue's entries that aren't deleted, the oldest first
  abbrev pub QueueHas : World (LinkedEntry T) → Queue T → List T → Type 0
  QueueHas w queue vs =
      (es : List (Entry (LinkedEntry T))) × (second : Option ℕ) × IsQueue link_of w (cells_in queue) es second × (shown_of es ≡ vs)

  -- these are the values of the stack's entries that aren't deleted, the newest first
  abbrev pub StackHas : World (LinkedEntry T) → Stack T → List T → Type 0
  StackHas w stack vs = (es : List (Entry (LinkedEntry T))) × IsStack w (cell_in stack) es × (shown_of es ≡ vs)

-- the law: whoever lets an owner go, the values are the same
pub record ReleasesKeepValues (T : Type 0) : Type 0 where
  pub queue : (w : World (LinkedEntry T)) (p k : ℕ) (queue : Queue T) (vs : List T) → QueueHas w queue vs
      → QueueHas (owner_given w p k (standing_at w k)) queue vs
  pub stack : (w : World (LinkedEntry T)) (p k : ℕ) (stack : Stack T) (vs : List T) → StackHas w stack vs
      → StackHas (owner_given w p k (standing_at w k)) stack vs

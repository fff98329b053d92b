-- What a copy of a queue or a stack answers and leaves
use Rattle.std.specs.Prelude.{ℕ, ◌≡◌, ◌⊎◌, ◌++◌, ◌∷◌, List, Option, Result, Ok, Err}
use Rattle.sdd_core.specs.declared.refused.Refused.{Refused}
use Rattle.sdd_core.specs.declared.refused.Refused.TheVariants.{NoCell}
use Rattle.sdd_participants.specs.Slab.{IsFull}
use Rattle.sdd_world_model.specs.World.{World}
use Rattle.sdd_lists.specs.Lists.{Entry}
use Rattle.sdd_lists.specs.Queue.{HasOneAtMost, QueueCells, cells_in, queue_closed}
use Rattle.sdd_lists.specs.Stack.{cell_in}
use Rattle.sdd_lists.specs.Walk.{shown_of}
use Rattle.sdd_lists.specs.declared.queue.Queue.{Queue}
use Rattle.sdd_lists.specs.declared.stack.Stack.{Stack}
use Rattle.sdd_script_model.specs.declared.val.Body.{Body}
use Rattle.sdd_script_model.specs.Copies.{MakesQueueOf, MakesStackOf}
use Rattle.sdd_script_model.specs.Stacks.{RefusesEntry, stack_closed}
use Rattle.sdd_script_model.specs.Val.{Val, link_of}

-- another queue has the values of these entries; or no two cells are free; or the next of the values finds no place, and what was built is closed
abbrev pub QueueIsCopied : ℕ → World Val → List (Entry Val) → Result (Queue Body) Refused → World Val → Type 0
QueueIsCopied p w es (Ok copy) new = (fs : List (Entry Val)) × (held : Option ℕ) × MakesQueueOf w p (shown_of es) (cells_in copy) fs held new
QueueIsCopied p w es (Err why) new =
    HasOneAtMost w.cells × (why ≡ NoCell) × (new ≡ w)
    ⊎ ((q : QueueCells) × (fs : List (Entry Val)) × (held : Option ℕ) × (v : World Val) × (first : List Body) × (next : Body) × (others : List Body)
    × (shown_of es ≡ first ++ next ∷ others) × MakesQueueOf w p first q fs held v × RefusesEntry v why × (new ≡ queue_closed link_of v p q fs held))

-- and so with stacks
abbrev pub StackIsCopied : ℕ → World Val → List (Entry Val) → Result (Stack Body) Refused → World Val → Type 0
StackIsCopied p w es (Ok copy) new = (fs : List (Entry Val)) × MakesStackOf w p (shown_of es) (cell_in copy) fs new
StackIsCopied p w es (Err why) new =
    IsFull w.cells × (why ≡ NoCell) × (new ≡ w)
    ⊎ ((c : ℕ) × (fs : List (Entry Val)) × (v : World Val) × (first : List Body) × (next : Body) × (others : List Body)
    × (shown_of es ≡ first ++ next ∷ others) × MakesStackOf w p first c fs v × RefusesEntry v why × (new ≡ stack_closed v p c fs))

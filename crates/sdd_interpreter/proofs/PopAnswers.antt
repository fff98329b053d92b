-- What a pop of a stack or a queue answers, as a step says it
use Rattle.sdd_interpreter.proofs.Words.{ℕ, List, Option, Some, None, Bor, Result, Ok, Err, Refused, IsOfSlots, World, Entry, cells_in, cell_in, Queue, Stack, Val, link_of, Body, Dequeues, IfOk, Pops, PopsOff}
use Rattle.sdd_space.specs.Shared.{Shared}
use Rattle.sdd_core.specs.declared.tag.Tag.TheVariants.{None as no_tag}
use Rattle.sdd_rights.specs.Units as units
use Rattle.sdd_interpreter.specs.declared.holding.AnyList.TheVariants as any

pub pops-newest : (home : units.GhostName) (w : World Val) (p : ℕ) (stack : Bor (Stack Body)) (es : List (Entry Val)) (second : Option ℕ)
    (r : Result (Option (Shared Val)) Refused) (new : World Val) → IfOk r (IsOfSlots home) → Pops link_of w p (cell_in stack.now) no_tag es r new →
    PopsOff home w p (any.Stack stack) es second r new
pops-newest home w p stack es second (Ok None) new at pops = record { none = pops.none; world = pops.world }
pops-newest home w p stack es second (Ok (Some owner)) new at (e, rest, same, taken) = (
  at,
  (
    e,
    taken.slot,
    record { rest = rest; first = same; owners = taken.owners; shared = taken.shared; few = taken.few; world = taken.world },
  ),
)
pops-newest home w p stack es second (Err why) new at (e, rest, same, crowded) = (
  record { entry = e; rest = rest; first = same; full = crowded.full },
  crowded.why,
  crowded.same,
)

pub pops-oldest : (home : units.GhostName) (w : World Val) (p : ℕ) (queue : Bor (Queue Body)) (es : List (Entry Val)) (second : Option ℕ)
    (r : Result (Option (Shared Val)) Refused) (new : World Val) → IfOk r (IsOfSlots home) →
    Dequeues link_of w p (cells_in queue.now) es second r new → PopsOff home w p (any.Queue queue) es second r new
pops-oldest home w p queue es second (Ok None) new at pops = record { none = pops.none; world = pops.world; queue = pops.queue }
pops-oldest home w p queue es second (Ok (Some owner)) new at (e, rest, same, taken) = (
  at,
  (
    e,
    taken.slot,
    record {
      rest = rest;
      first = same;
      owners = taken.owners;
      shared = taken.shared;
      few = taken.few;
      world = taken.world;
      queue = taken.queue;
    },
  ),
)
pops-oldest home w p queue es second (Err why) new at (e, rest, same, crowded) = (
  record { entry = e; rest = rest; first = same; full = crowded.full },
  crowded.why,
  crowded.same,
)

-- How a script lets go of what it holds
use Rattle.std.specs.Prelude.{ℕ, ◌+◌, ◌<◌, ◌≡◌, ◌↔◌, Bool, IsTrue, List, [], ◌∷◌, None, Option, Some, length, slice_index_or, slice_set}
use Rattle.sdd_participants.specs.EpochState as time
use Rattle.sdd_participants.specs.declared.standing.Standing.TheVariants.{Owned, Shared}
use Rattle.sdd_world_model.specs.Slots.{IsSharedBy}
use Rattle.sdd_space.specs.Owned as owned
use Rattle.sdd_space.specs.Shared as shared
use Rattle.sdd_world_model.specs.World.{World, AnyGuardOpen, standing_at}
use Rattle.sdd_world_model.specs.WorldChanges.{owner_given, retired}
use Rattle.sdd_world.specs.Closing.{AllGo}
use Rattle.sdd_script_model.specs.ScriptState.{ScriptState}
use Rattle.sdd_script_model.specs.Sound.{IsSound}
use Rattle.sdd_script_model.specs.Val.{Val, holdings_of}
use Rattle.sdd_interpreter.specs.Interpreter.{state_of}
use Rattle.sdd_interpreter.specs.declared.holding.AnyOwner.{AnyOwner}
use Rattle.sdd_interpreter.specs.declared.holding.AnyOwner.TheVariants.{Share, Sole}
use Rattle.sdd_interpreter.specs.declared.interpreter.Environment.{Environment}

-- the guard is spent: it is closed
pub record SpendsGuard (g : ℕ) (old new : ScriptState) : Type 0 where
  pub guards : new.guards ≡ slice_set old.guards g None
  pub tally : new.world.tally ≡ old.world.tally

-- each of these names was spent
abbrev pub AreSpent : {X : Type 0} → List (Option X) → Type 0
AreSpent xs = (k : ℕ) → slice_index_or xs k None ≡ None

-- an item, a cell, a queue, a stack or a bag was made
abbrev pub HasMade : Environment → Type 0
HasMade h =
    0 < length h.log.slots.items + length h.cells.entries.items + length h.lists.queues.entries.items + length h.lists.stacks.entries.items + length
    h.lists.bags.entries.items

-- place p is a participant's again, with what was left there
abbrev pub revived : World Val → ℕ → World Val
revived w p = record w { time = time.revived w.time p }

-- the world is of the same home, and as many items were made and dropped in their place
abbrev pub KeepsTold : (old new : World Val) → Type 0
KeepsTold old new = (new.home ≡ old.home) × (new.tally.made ≡ old.tally.made) × (new.tally.in_place ≡ old.tally.in_place)

-- the owner is given up at place p
abbrev pub GivesUp : World Val → (p : ℕ) → AnyOwner → World Val → Type 0
GivesUp w p (Sole x) new = (standing_at w (owned.slot_of x) ≡ Some Owned) × (new ≡ retired w p (owned.slot_of x))
GivesUp w p (Share x) new =
    (owners : ℕ) × IsSharedBy owners (standing_at w (shared.slot_of x)) × ((last : Bool) × (IsTrue last ↔ (owners ≡ 1)))
    × (new ≡ owner_given w p (shared.slot_of x) (Some (Shared owners)))

-- the state in such a line, where one participant alone is there, at place p, with one guard
abbrev pub state_under : ScriptState → (p moment since : ℕ) → List ℕ → ScriptState
state_under d p moment since dates =
    record d {
      moment = moment;
      places = Some (record { place = p; since = since }) ∷ [];
      guards = Some (record { place = p; since = since }) ∷ [];
      dates = dates;
    }

-- what is in hand is as in some line with one participant, at place p, and one guard
pub record IsEnding (h : Environment) (p : ℕ) : Type 0 where
  pub moment : ℕ
  pub since : ℕ
  pub dates : List ℕ
  pub sound : IsSound (state_under (state_of h) p moment since dates)

-- something is given up at place p
pub record GoesOn (old new : Environment) (p : ℕ) : Type 0 where
  pub ending : IsEnding new p
  pub told : KeepsTold old.world new.world

-- no name is left but those of guards and participants
abbrev pub AreAllSpent : Environment → Type 0
AreAllSpent h =
    AreSpent h.owners.entries.items × AreSpent h.cells.entries.items × AreSpent h.collectors.entries.items × AreSpent h.lists.queues.entries.items
    × AreSpent h.lists.stacks.entries.items × AreSpent h.lists.bags.entries.items

-- the world can be closed, and nothing of it is in hand
pub record IsSpent (h : Environment) : Type 0 where
  pub names : AreAllSpent h
  pub quiet : ¬ (AnyGuardOpen h.world)
  pub goes : AllGo holdings_of h.world

-- What a script has in hand, as its state, and how the two are tied
use Rattle.std.specs.Prelude.{ℕ, ◌≡◌, List, Option, Some, None, map, slice_index_or}
use Rattle.std.specs.Option.{option_map}
use Rattle.sdd_space.specs.Guard.{reader_of}
use Rattle.sdd_script_model.specs.ScriptState.{ScriptState, OpenSince, opening_at}
use Rattle.sdd_script_model.specs.Sound.{IsSound}
use Rattle.sdd_interpreter.specs.declared.participants.NamedGuard.{NamedGuard}
use Rattle.sdd_interpreter.specs.declared.interpreter.Environment.{Environment}
use Rattle.sdd_interpreter.specs.Owners.{owner_holding, cell_holding, collector_holding, newest_holding, oldest_holding, stack_holding}
use Rattle.sdd_interpreter.specs.Environment.{open_since, guarding}
use Rattle.sdd_rights.specs.Units as units

abbrev pub state_of : Environment → ScriptState
state_of s =
    record {
      moment = s.log.moment;
      world = s.world;
      places = map open_since s.places.entries.items;
      guards = map guarding s.guards.entries.items;
      owners = map (option_map owner_holding) s.owners.entries.items;
      cells = map (option_map cell_holding) s.cells.entries.items;
      collectors = map (option_map collector_holding) s.collectors.entries.items;
      queues = map (option_map oldest_holding) s.lists.queues.entries.items;
      newest = map (option_map newest_holding) s.lists.queues.entries.items;
      stacks = map (option_map stack_holding) s.lists.stacks.entries.items;
      bags = s.lists.bags.entries.items;
      slots = s.log.slots.items;
      names = s.log.names.items;
      dates = s.log.dates.items;
      jobs = s.log.jobs;
      deferred = s.log.deferred.items;
      job_dates = s.log.job_dates.items;
    }

-- a guard is that of the participant under whose name it was opened
pub record IsGuardIn (home : units.GhostName) (places : List (Option OpenSince)) (held : NamedGuard) : Type 0 where
  pub own : option_map (λ (x : OpenSince). x.place) (opening_at places held.participant) ≡ Some held.place
  pub reader : reader_of held.guard ≡ record { home = home; number = held.place }

abbrev pub GuardsIn : units.GhostName → List (Option OpenSince) → Option NamedGuard → Type 0
GuardsIn home places None = Unit {0}
GuardsIn home places (Some held) = IsGuardIn home places held

-- what is in hand is what the state says
pub record IsTied (s : Environment) : Type 0 where
  pub sound : IsSound (state_of s)
  pub guards : (g : ℕ) → GuardsIn s.world.home.readers (map open_since s.places.entries.items) (slice_index_or s.guards.entries.items g None)

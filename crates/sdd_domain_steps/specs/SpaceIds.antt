-- Where the slots, the cells and the participants of a domain are numbered
use Rattle.std.specs.Prelude.{ℕ, ◌^◌, false, []}
use Rattle.atomic_table.specs.Seated.{TableId}
use Rattle.sdd_rights.specs.Units as seat
use Rattle.sdd_rights.specs.Right.{home_of_table, cells_of_table}
use Rattle.sdd_world_model.specs.OwnerOrCell as holding
use Rattle.sdd_core.specs.declared.limits.Limits.{Limits}
use Rattle.sdd_domain_steps.specs.LocalState.{LocalState}

abbrev pub SpaceId : Type 0
SpaceId = holding.SpaceId

-- where nothing is numbered
abbrev pub nowhere : seat.GhostName
nowhere = record { name = 0; size = 0; tables = []; cells = false }

-- its cells are those of its table, below the most that a table may have
abbrev pub cells_home : TableId → seat.GhostName
cells_home table = cells_of_table table (2 ^ 24)

-- what a value may hold: it is of these slots, and of the cells of their table
abbrev pub home_of_slots : TableId → ℕ → ℕ → SpaceId
home_of_slots table gamma size = record { slots = home_of_table table gamma size; cells = cells_home table; readers = nowhere }

-- the slots and the cells of its domain. Each reader is numbered in a home of its own, and there may be so many
abbrev pub home_at : TableId → ℕ → Limits → SpaceId
home_at table gamma limits = record {
  slots = home_of_table table gamma limits.slots;
  cells = cells_home table;
  readers = record nowhere { size = limits.participants };
}

abbrev pub home_in : {J : Type 0} → LocalState J → SpaceId
home_in m = home_at m.home m.gamma m.limits

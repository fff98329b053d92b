-- The limits of a world or domain
use Rattle.std.specs.Prelude.{◌-◌, ◌^◌, ◌≤◌}
use Rattle.sdd_core.specs.declared.limits.Limits.{Limits}

-- each limit is in its range
pub record AreInRange (l : Limits) : Type 0 where
  pub some_participants : 1 ≤ l.participants
  pub participants : l.participants ≤ 1024
  pub some_slots : 1 ≤ l.slots
  pub slots : l.slots ≤ 2 ^ 24
  pub some_cells : 1 ≤ l.cells
  pub cells : l.cells ≤ 2 ^ 24
  pub jobs : l.jobs ≤ 65536
  pub some_nesting : 1 ≤ l.nesting
  pub nesting : l.nesting ≤ 2 ^ 32 - 1
  pub some_tries : 1 ≤ l.tries
  pub tries : l.tries ≤ 65535

-- A world with what is lent of it, and what its parts keep true of each other
use Rattle.std.specs.Prelude.{◌+◌, ◌≤◌, ◌≡◌, List, length, is_none, sum_by, count_by}
use Rattle.sdd_participants.specs.Slab.{Entries}
use Rattle.sdd_participants.specs.EpochState.{EpochState, waiting_count}
use Rattle.sdd_values.specs.ReadSections.{ReadSections}
use Rattle.sdd_world_model.specs.Slots.{Slots}
use Rattle.sdd_world_model.specs.Cells.{Cells}
use Rattle.sdd_world_model.specs.OwnerOrCell.{OwnerOrCell, ValuesAreOf}
use Rattle.sdd_world_model.specs.World.{World, is_loose}
use Rattle.sdd_world_model.specs.Loans.{Loans}

-- a world, what of its values is lent, and the jobs that wait, each at its place of the table
pub record WorldCore (T J : Type 0) : Type 0 where
  pub world : World T
  pub lending : Loans
  pub deferred : Entries J

-- what a value leaves as it is that gives up what it holds: what is lent, and the jobs that wait
abbrev pub kept_of : {T J : Type 0} → WorldCore T J → Loans × Entries J
kept_of c = (c.lending, c.deferred)

-- there is room for each slot and each job to wait, cells hold owners of these slots, values hold what is of this home, and each place may have a reader
pub record IsSound {T : Type 0} (holds : T → List OwnerOrCell) (t : EpochState) (s : Slots T) (c : Cells) (jobs : Entries (Unit {0}))
    (r : ReadSections) : Type 0 where
  pub counted : sum_by waiting_count t.places + count_by is_loose s.standings + count_by is_none jobs ≤ length s.standings + length jobs
  pub reserved : t.room ≡ length s.standings + length jobs
  pub held : c.slots ≡ s.home
  pub homes : ValuesAreOf holds (record { slots = s.home; cells = c.home; readers = r.home }) s.values
  pub participants : t.participants ≡ r.home.size
  pub sections : length r.kept ≡ r.home.size
  pub readers : s.readers ≡ r.home.size

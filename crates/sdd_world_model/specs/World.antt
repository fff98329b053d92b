-- A world as clauses see it
use Rattle.std.specs.Prelude.{ℕ, Any, IsTrue, is_none, ◌+◌, ◌<◌, ◌≡◌, Bool, true, false, List, [], length, Option, None, sum_by, count_by, slice_get, slice_index_or, replicate}
use Rattle.sdd_participants.specs.EpochState.{EpochState, lives, waiting_count}
use Rattle.sdd_participants.specs.EpochState as time
use Rattle.sdd_participants.specs.Slab.{Entries, entry_at}
use Rattle.sdd_participants.specs.declared.standing.Standing.{Standing}
use Rattle.sdd_participants.specs.declared.standing.CellContents.{CellContents}
use Rattle.sdd_participants.specs.declared.standing.RawCellContents.{RawCellContents}
use Rattle.sdd_participants.specs.declared.tally.Tally.{Tally}
use Rattle.sdd_participants.specs.Tally.{no_items}
use Rattle.sdd_participants.specs.declared.participant.Participant.{Participant}
use Rattle.sdd_world_model.specs.Slots.{is_waiting}
use Rattle.sdd_world_model.specs.Cells.{null_pointer}
use Rattle.sdd_world_model.specs.OwnerOrCell.{SpaceId}
use Rattle.sdd_core.specs.declared.limits.Limits.{Limits}

pub record World (T : Type 0) : Type 0 where
  pub home : SpaceId
  pub time : EpochState
  pub standings : Entries Standing
  pub values : List (Option T)
  pub cells : Entries CellContents
  -- of each number of a cell what the raw cell that has it points to, or the last one that had it
  pub pointers : List RawCellContents
  -- which places of the table of jobs have a job that waits
  pub jobs : Entries (Unit {0})
  pub tally : Tally

module _ {T : Type 0} where
  abbrev pub place_at : World T → ℕ → Participant
  place_at w p = time.place_at w.time p

  abbrev pub standing_at : World T → ℕ → Option Standing
  standing_at w k = entry_at w.standings k

  abbrev pub value_at : World T → ℕ → Option T
  value_at w k = slice_index_or w.values k None

  -- what the raw cell of this number points to
  abbrev pub pointer_at : World T → ℕ → Option RawCellContents
  pointer_at w c = slice_get w.pointers c

  -- a world without items and jobs: time is so, and there are that many slots, cells and places of jobs, all free
  pub record IsBlank (t : EpochState) (slot_count cell_count job_count : ℕ) (w : World T) : Type 0 where
    pub time : w.time ≡ t
    pub standings : w.standings ≡ replicate slot_count None
    pub values : w.values ≡ replicate slot_count None
    pub cells : w.cells ≡ replicate cell_count None
    pub pointers : w.pointers ≡ replicate cell_count null_pointer
    pub jobs : w.jobs ≡ replicate job_count None
    pub tally : w.tally ≡ no_items

  -- a world without participants and items, at this count and with these limits
  abbrev pub IsNew : Limits → ℕ → World T → Type 0
  IsNew l count w =
      IsBlank (record { count = count; marked = false; places = []; phases = []; participants = l.participants; nesting = l.nesting; room = l.slots + l.jobs })
      l.slots l.cells l.jobs w

  -- the world has this place
  abbrev pub HasPlace : World T → ℕ → Type 0
  HasPlace w p = p < length w.time.places

  -- it is a live place of the world: a participant's, who has not ended
  abbrev pub IsPlaceOf : World T → ℕ → Type 0
  IsPlaceOf w p = time.IsLive w.time p

  -- some guard is open
  abbrev pub AnyGuardOpen : World T → Type 0
  AnyGuardOpen w = Any (λ p. IsTrue (time.is_open p)) w.time.places

-- a slot that no participant's bags have
abbrev pub is_loose : Option Standing → Bool
is_loose s = elim (is_waiting s) [ true ↦ false | false ↦ true ]

-- how much waits with some participant, how many slots are loose, and how many places of jobs are free
abbrev pub weight : {T : Type 0} → World T → ℕ
weight w = sum_by waiting_count w.time.places + count_by is_loose w.standings + count_by is_none w.jobs

-- how much may wait at once: an item for each slot, and a job for each place of one
abbrev pub most : {T : Type 0} → World T → ℕ
most w = length w.standings + length w.jobs

-- the same home, as many places and slots, the same participants, and the same limits of nesting and room
pub record KeepsSizes {T : Type 0} (old new : World T) : Type 0 where
  pub home : new.home ≡ old.home
  pub places : length new.time.places ≡ length old.time.places
  pub live : lives new.time ≡ lives old.time
  pub slots : length new.standings ≡ length old.standings
  pub jobs : length new.jobs ≡ length old.jobs
  pub nesting : new.time.nesting ≡ old.time.nesting
  pub room : new.time.room ≡ old.time.room

-- What each call does to a world
use Rattle.std.specs.Prelude.{ℕ, ◌-◌, List, [], ◌∷◌, Option, Some, None, nat_lt, slice_set, if◌then◌else◌}
use Rattle.sdd_core.specs.declared.tag.Tag.TheVariants.{None as no_tag}
use Rattle.sdd_participants.specs.declared.waiting.LimboEntry.{LimboEntry}
use Rattle.sdd_participants.specs.declared.waiting.LimboEntry.TheVariants.{Item, Job}
use Rattle.sdd_participants.specs.EpochState as time
use Rattle.sdd_participants.specs.Slab.{entry_at, with_entry, without_entry}
use Rattle.sdd_participants.specs.Tally.{one_in_place, one_made, one_reclaimed}
use Rattle.sdd_participants.specs.declared.standing.Standing.{Standing}
use Rattle.sdd_participants.specs.declared.standing.Standing.TheVariants.{Owned, Raw, Shared, Retired, Private as privately}
use Rattle.sdd_participants.specs.declared.standing.CellContents.{CellContents}
use Rattle.sdd_participants.specs.declared.standing.RawCellContents.{RawCellContents}
use Rattle.sdd_world_model.specs.OwnerOrCell.{OwnerOrCell, owned, shared, atomic_owned, atomic_shared, atomic_raw}
use Rattle.sdd_world_model.specs.World.{World, place_at, standing_at, value_at}

-- what a cell holds, if one is there
abbrev pub held_in : Option CellContents → Option ℕ
held_in None = None
held_in (Some cell) = cell.held

module _ {T : Type 0} where
  -- some slot that was free has the value, which stands so
  abbrev pub made_as : World T → ℕ → T → Standing → World T
  made_as w k value s =
      record w { standings = with_entry w.standings k s; values = slice_set w.values k (Some value); tally = one_made w.tally }

  -- it is out as owned
  abbrev pub made : World T → ℕ → T → World T
  made w k value = made_as w k value Owned

  -- it is out with one owner, and may have more
  abbrev pub made_shared : World T → ℕ → T → World T
  made_shared w k value = made_as w k value (Shared 1)

  -- the item in the slot stands so
  abbrev pub with_standing : World T → ℕ → Standing → World T
  with_standing w k s = record w { standings = with_entry w.standings k s }

  -- the item in the slot has another value
  abbrev pub with_value : World T → ℕ → T → World T
  with_value w k value = record w { values = slice_set w.values k (Some value) }

  -- the item in the slot begins to wait with p, and stands so
  abbrev pub waiting_as : World T → ℕ → ℕ → Standing → World T
  waiting_as w p k s = record w { time = time.awaiting_at w.time p (Item k); standings = with_entry w.standings k s }

  -- the item in the slot waits with p
  abbrev pub retired : World T → ℕ → ℕ → World T
  retired w p k = waiting_as w p k Retired

  -- some place of the table of jobs that was free has a job, which waits with p
  abbrev pub deferred : World T → ℕ → ℕ → World T
  deferred w p j = record w { time = time.awaiting_at w.time p (Job j); jobs = with_entry w.jobs j tt }

  -- the job in the place ran, and the place is free
  abbrev pub ran : World T → ℕ → World T
  ran w j = record w { jobs = without_entry w.jobs j }

  -- a cell that was free, or held something, holds this
  abbrev pub with_cell : World T → ℕ → CellContents → World T
  with_cell w c cell = record w { cells = with_entry w.cells c cell }

  -- some cell that was free holds nothing
  abbrev pub nulled : World T → ℕ → World T
  nulled w c = with_cell w c (record { held = None; tag = no_tag })

  -- a raw cell points to this
  abbrev pub with_pointer : World T → ℕ → RawCellContents → World T
  with_pointer w c pointer = record w { pointers = slice_set w.pointers c pointer }

  -- some cell that was free is a raw cell, which holds nothing and points to this
  abbrev pub pointing : World T → ℕ → RawCellContents → World T
  pointing w c pointer = with_pointer (nulled w c) c pointer

  -- the cell is free
  abbrev pub without_cell : World T → ℕ → World T
  without_cell w c = record w { cells = without_entry w.cells c }

  -- p is given an owner of the slot's item, which stands so: the last owner's item is retired
  abbrev pub owner_given : World T → ℕ → ℕ → Option Standing → World T
  owner_given w p k None = w
  owner_given w p k (Some Owned) = retired w p k
  owner_given w p k (Some Raw) = w
  owner_given w p k (Some (Shared n)) = if nat_lt 1 n then with_standing w k (Shared (n - 1)) else retired w p k
  owner_given w p k (Some Retired) = w
  owner_given w p k (Some (privately c)) = w

  -- p is given what a cell held
  abbrev pub spilled : World T → ℕ → Option ℕ → World T
  spilled w p None = w
  spilled w p (Some k) = owner_given w p k (standing_at w k)

  -- the cell is free, and p is given what it held
  abbrev pub cell_closed : World T → ℕ → ℕ → World T
  cell_closed w p c = spilled (without_cell w c) p (held_in (entry_at w.cells c))

  -- p is given one of the things that a value held
  abbrev pub given : World T → ℕ → OwnerOrCell → World T
  given w p (owned k home) = owner_given w p k (standing_at w k)
  given w p (shared k home) = owner_given w p k (standing_at w k)
  given w p (atomic_owned c home) = cell_closed w p c
  given w p (atomic_shared c home) = cell_closed w p c
  given w p (atomic_raw c home) = cell_closed w p c

  abbrev pub given_all : World T → ℕ → List OwnerOrCell → World T
  given_all w p [] = w
  given_all w p (h ∷ hs) = given_all (given w p h) p hs

  -- the value of an item that waits in the slot
  abbrev pub waiting_value : World T → ℕ → Option Standing → Option T
  waiting_value w k None = None
  waiting_value w k (Some Owned) = None
  waiting_value w k (Some Raw) = None
  waiting_value w k (Some (Shared n)) = None
  waiting_value w k (Some Retired) = value_at w k
  waiting_value w k (Some (privately c)) = value_at w k

  -- the slot is free, and one item more was reclaimed
  abbrev pub freed : World T → ℕ → World T
  freed w k = record w { standings = without_entry w.standings k; values = slice_set w.values k None; tally = one_reclaimed w.tally }

  -- the slot is free, and one item more was dropped in its place
  abbrev pub vacated : World T → ℕ → World T
  vacated w k = record w { standings = without_entry w.standings k; values = slice_set w.values k None; tally = one_in_place w.tally }

  -- what waits with p has seen one change more, and what has seen three is taken out
  abbrev pub rotated : World T → ℕ → World T
  rotated w p = record w { time = time.rotated_at w.time p }

  -- it is decided whether anything waits with p
  abbrev pub settled : World T → ℕ → World T
  settled w p = record w { time = time.settled_at w.time p }

  -- one more guard of p is open
  abbrev pub nested : World T → ℕ → World T
  nested w p = record w { time = time.nested_at w.time p }

  module _ (holds : T → List OwnerOrCell) where
    -- the value is taken out of the slot, and gives up to p what it holds
    abbrev pub taken_out : World T → ℕ → ℕ → Option T → World T
    taken_out w p k None = w
    taken_out w p k (Some value) = given_all (freed w k) p (holds value)

    -- the value is dropped in its place, and gives up to p what it holds
    abbrev pub dropped_out : World T → ℕ → ℕ → Option T → World T
    dropped_out w p k None = w
    dropped_out w p k (Some value) = given_all (vacated w k) p (holds value)

    -- the item in the slot is dropped in its place
    abbrev pub dropped : World T → ℕ → ℕ → World T
    dropped w p k = dropped_out w p k (value_at w k)

    abbrev pub slot_reclaimed : World T → ℕ → ℕ → World T
    slot_reclaimed w p k = taken_out w p k (waiting_value w k (standing_at w k))

    -- p reclaims what waited
    abbrev pub reclaimed : World T → ℕ → LimboEntry → World T
    reclaimed w p (Item k) = slot_reclaimed w p k
    reclaimed w p (Job j) = ran w j

    abbrev pub all_reclaimed : World T → ℕ → List LimboEntry → World T
    all_reclaimed w p [] = w
    all_reclaimed w p (x ∷ xs) = all_reclaimed (reclaimed w p x) p xs

    -- a change of p: what it takes out is reclaimed, and then it is decided whether anything waits
    abbrev pub changed : World T → ℕ → World T
    changed w p = settled (all_reclaimed (rotated w p) p (time.due_next (place_at w p))) p

    -- an outermost opening is a change if it finds another count
    abbrev pub caught_up : World T → ℕ → World T
    caught_up w p = if time.finds_another w.time p then changed w p else w

    -- one more guard of p is open; only an outermost opening looks at the count
    abbrev pub opened : World T → ℕ → World T
    opened w p = if time.is_open (place_at w p) then nested w p else caught_up (nested w p) p

  abbrev pub stirred : World T → ℕ → World T
  stirred w p = record w { time = time.stirred_at w.time p }

  abbrev pub accelerated : World T → ℕ → World T
  accelerated w p = record w { time = time.accelerated_at w.time p }

  -- a guard of p is closed
  abbrev pub closed : World T → ℕ → World T
  closed w p = record w { time = time.closed w.time p }

  -- a vacant place is a newcomer's
  abbrev pub registered : World T → ℕ → World T
  registered w p = record w { time = time.registered w.time p }

  -- the participant has ended, and what waits with it is left at its place
  abbrev pub ended : World T → ℕ → World T
  ended w p = record w { time = time.ended w.time p }

  -- what an opening of p takes out to reclaim
  abbrev pub reclaims : World T → ℕ → List LimboEntry
  reclaims w p =
      if time.is_open (place_at w p) then [] else (if time.finds_another w.time p then time.due_next (place_at w p) else [])

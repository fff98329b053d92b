-- What the closing of a world does
use Rattle.std.specs.Prelude.{ℕ, zero, suc, ◌+◌, ◌-◌, ◌<◌, ◌≡◌, ◌≢◌, ◌↔◌, AllPairs, Contains, IsSome, List, [], ◌∷◌, length, map, slice_get, Option, None, Some}
use Rattle.sdd_participants.specs.EpochState.{EpochState, pace_of, without_waiting}
use Rattle.sdd_participants.specs.Slab.{entry_at}
use Rattle.sdd_participants.specs.Tally.{one_reclaimed}
use Rattle.sdd_participants.specs.declared.tally.Tally.{Tally}
use Rattle.sdd_participants.specs.declared.standing.Standing.{Standing}
use Rattle.sdd_participants.specs.declared.standing.Standing.TheVariants.{Owned, Raw, Shared, Retired, Private as privately}
use Rattle.sdd_world_model.specs.Slots.{IsWaiting}
use Rattle.sdd_world_model.specs.OwnerOrCell.{OwnerOrCell, owned, shared, atomic_owned, atomic_shared, atomic_raw}
use Rattle.sdd_world_model.specs.World.{World, place_at, standing_at, value_at}
use Rattle.sdd_world_model.specs.WorldChanges.{changed, held_in}
use Rattle.sdd_world_model.specs.WorldInvariant.{taken, IsCounted}
use Rattle.sdd_world_model.specs.OwnerCounts.{owner_count}
use Rattle.sdd_world_core.specs.Closing.{paced}

-- nothing waits with anyone, nor at the place of anyone who has ended
abbrev pub emptied : EpochState → EpochState
emptied t = record t { places = map without_waiting t.places }

module _ {T : Type 0} (holds : T → List OwnerOrCell) where
  -- a change of p, by which it finds no other count, and doesn't count down
  abbrev pub aged_out : World T → ℕ → World T
  aged_out w p = paced (changed holds w p) p (pace_of (place_at w p))

  -- the same of one participant after another
  abbrev pub all_aged_out : World T → List ℕ → World T
  all_aged_out w [] = w
  all_aged_out w (p ∷ ps) = all_aged_out (aged_out w p) ps

-- by such changes what waited was reclaimed, with what it gave up in turn; time is as before, but nothing waits
pub record ReclaimsAll {T : Type 0} (holds : T → List OwnerOrCell) (old new : World T) : Type 0 where
  pub changes : (places : List ℕ) × (new ≡ all_aged_out holds old places)
  pub time : new.time ≡ emptied old.time
  pub home : new.home ≡ old.home

-- an owner of an item: the value in the slot holds it at this index, or the cell holds it
pub data Owner : Type 0 where
  of_value : (slot index : ℕ) → Owner
  of_cell : (cell : ℕ) → Owner

-- what holds owners: the item in a slot, whose value does, or a cell
pub data Holder : Type 0 where
  the_item : (slot : ℕ) → Holder
  the_cell : (cell : ℕ) → Holder

-- what holds the owner
abbrev pub holder : Owner → Holder
holder (of_value j i) = the_item j
holder (of_cell c) = the_cell c

-- the slot whose item it owns, if it is an owner
abbrev pub slot_owned : Option OwnerOrCell → Option ℕ
slot_owned None = None
slot_owned (Some (owned k home)) = Some k
slot_owned (Some (shared k home)) = Some k
slot_owned (Some (atomic_owned c home)) = None
slot_owned (Some (atomic_shared c home)) = None
slot_owned (Some (atomic_raw c home)) = None

-- the number of the cell, if it is one
abbrev pub cell_held : Option OwnerOrCell → Option ℕ
cell_held None = None
cell_held (Some (owned k home)) = None
cell_held (Some (shared k home)) = None
cell_held (Some (atomic_owned c home)) = Some c
cell_held (Some (atomic_shared c home)) = Some c
cell_held (Some (atomic_raw c home)) = Some c

-- how the item stands with so many owners fewer, while some are left
abbrev pub with_fewer : ℕ → Option Standing → Option Standing
with_fewer n None = None
with_fewer n (Some Owned) = Some Owned
with_fewer n (Some Raw) = Some Raw
with_fewer n (Some (Shared m)) = Some (Shared (m - n))
with_fewer n (Some Retired) = Some Retired
with_fewer n (Some (privately c)) = Some (privately c)

module _ {T : Type 0} (holds : T → List OwnerOrCell) where
  -- what a value holds at this index
  abbrev pub held_by : Option T → ℕ → Option OwnerOrCell
  held_by None i = None
  held_by (Some value) i = slice_get (holds value) i

  -- what the value in the slot holds at this index
  abbrev pub held_at : World T → ℕ → ℕ → Option OwnerOrCell
  held_at w j i = held_by (value_at w j) i

  -- the slot whose item the owner is of
  abbrev pub owns : World T → Owner → Option ℕ
  owns w (of_value j i) = slot_owned (held_at w j i)
  owns w (of_cell c) = held_in (entry_at w.cells c)

-- distinct owners of the slot's item, as many as it has
pub record AreAllOf {T : Type 0} (holds : T → List OwnerOrCell) (w : World T) (k : ℕ) (owners : List Owner) : Type 0 where
  pub each : (o : Owner) → Contains owners o → owns holds w o ≡ Some k
  pub distinct : AllPairs ◌≢◌ owners
  pub some : 0 < length owners
  pub all : length owners ≡ owner_count (standing_at w k)

-- what goes with what waits: an item that waits itself, or whose owners are all held by what goes; and a cell that the value of such an item holds
pub data Goes {T : Type 0} (holds : T → List OwnerOrCell) (w : World T) : Holder → Type 0 where
  waits : (k : ℕ) → IsWaiting (standing_at w k) → Goes holds w (the_item k)
  given : (k : ℕ) (owners : List Owner) → AreAllOf holds w k owners → ((o : Owner) → Contains owners o → Goes holds w (holder o)) →
      Goes holds w (the_item k)
  held : (j i c : ℕ) → cell_held (held_at holds w j i) ≡ Some c → Goes holds w (the_item j) → Goes holds w (the_cell c)

-- all that is out goes with what waits
pub record AllGo {T : Type 0} (holds : T → List OwnerOrCell) (w : World T) : Type 0 where
  pub slots : (k : ℕ) → IsSome (standing_at w k) → Goes holds w (the_item k)
  pub cells : (c : ℕ) → IsSome (entry_at w.cells c) → Goes holds w (the_cell c)

-- so many items more were reclaimed
abbrev pub with_reclaimed : ℕ → Tally → Tally
with_reclaimed zero t = t
with_reclaimed (suc n) t = one_reclaimed (with_reclaimed n t)

-- the item stays, with its value; exactly those of its owners are given up whose holder goes
pub record KeepsItem {T : Type 0} (holds : T → List OwnerOrCell) (old new : World T) (k : ℕ) : Type 0 where
  pub given : List Owner
  pub distinct : AllPairs ◌≢◌ given
  pub all : (o : Owner) → (Contains given o ↔ ((owns holds old o ≡ Some k) × Goes holds old (holder o)))
  pub standing : standing_at new k ≡ with_fewer (length given) (standing_at old k)
  pub value : value_at new k ≡ value_at old k

-- what goes is free, and its items are counted as reclaimed; everything else is as before, but for the owners that went
pub record Sweeps {T : Type 0} (holds : T → List OwnerOrCell) (old new : World T) : Type 0 where
  pub gone : (k : ℕ) → Goes holds old (the_item k) → (standing_at new k ≡ None) × (value_at new k ≡ None)
  pub kept : (k : ℕ) → ¬ (Goes holds old (the_item k)) → KeepsItem holds old new k
  pub cells_gone : (c : ℕ) → Goes holds old (the_cell c) → entry_at new.cells c ≡ None
  pub cells_kept : (c : ℕ) → ¬ (Goes holds old (the_cell c)) → entry_at new.cells c ≡ entry_at old.cells c
  pub pointers : new.pointers ≡ old.pointers
  -- no place of the table of jobs is taken: what waited there ran
  pub ran : (j : ℕ) → entry_at new.jobs j ≡ None
  pub reclaimed : (n : ℕ) × (taken old ≡ taken new + n) × (new.tally ≡ with_reclaimed n old.tally)
  pub time : new.time ≡ emptied old.time
  pub home : new.home ≡ old.home
  pub slots : length new.standings ≡ length old.standings
  pub cells : length new.cells ≡ length old.cells
  pub jobs : length new.jobs ≡ length old.jobs

-- the tally at the end: what was made and dropped in place is as before, and all else that was made was reclaimed, while the numbers have room
pub record Accounts (old end : Tally) : Type 0 where
  pub made : end.made ≡ old.made
  pub in_place : end.in_place ≡ old.in_place
  pub reclaimed : IsCounted end 0

-- What is always true of a state
use Rattle.std.specs.Prelude.{ℕ, ◌+◌, ◌*◌, ◌^◌, ◌<◌, ◌≤◌, ◌≡◌, ◌⊎◌, ◌==◌, Bool, false, IsTrue, IsSome, List, Option, None, Some, count_by, length, slice_index}
use Rattle.sdd_participants.specs.EpochState.{is_open, phase_at}
use Rattle.sdd_participants.specs.Slab.{Entries, IsEmptyAt, entry_at}
use Rattle.sdd_world_model.specs.Slots.{is_waiting}
use Rattle.sdd_world_model.specs.OwnerOrCell.{OwnerOrCell, IsOf}
use Rattle.sdd_world_model.specs.World.{World, IsPlaceOf, place_at, standing_at, value_at}
use Rattle.sdd_world_model.specs.WorldChanges.{deferred}
use Rattle.sdd_world_model.specs.WorldInvariant.{IsWhole}
use Rattle.sdd_world_model.specs.Ledger.{Claim, owner_of, right_to, is_right_to, IsLedger}
use Rattle.sdd_world_model.specs.OwnerCounts.{is_owner_of, times_held}
use Rattle.sdd_world_model.specs.UnderGuards.{CallsUnder, IsSafe}
use Rattle.sdd_script_model.specs.Bags.{AreBags, AreSpare, IsStored, bagged}
use Rattle.sdd_script_model.specs.Listed.{HasLists}
use Rattle.sdd_script_model.specs.Shown.{number_in}
use Rattle.sdd_script_model.specs.Val.{Val, holdings_of}
use Rattle.sdd_script_model.specs.ScriptState.{ScriptState, OpenSince, IsListCell, IsSecondCell, opening_at, holding_at, slot_at, name_at, date_at, job_date_at}

-- the item in slot s has this name, which is that of no other slot; or it has none, and waits, or is a bag's storage
abbrev pub IsCalled : ScriptState → (s : ℕ) → Option ℕ → Type 0
IsCalled d s None = IsTrue (is_waiting (standing_at d.world s)) ⊎ IsStored d.bags d.world s
IsCalled d s (Some i) = (i < length d.slots) × (slot_at d i ≡ s)

-- which item is in which slot
pub record SlotsHaveNames (d : ScriptState) : Type 0 where
  -- a slot that is not free is that of the item that it has, which has a name but where it waits or is a bag's storage: so what is out as raw is out
  -- under its item's name
  pub named : (s : ℕ) → IsSome (standing_at d.world s) → IsCalled d s (name_at d s)
  pub names : length d.names ≡ length d.world.standings
  pub dates : length d.dates ≡ length d.world.standings
  -- a slot is numbered by 32 bits
  pub few : length d.names ≤ 2 ^ 32

-- the guard is one of p's
abbrev pub is_of : ℕ → Option OpenSince → Bool
is_of p None = false
is_of p (Some x) = x.place == p

-- what is named is an owner of the slot's item
abbrev pub owns : ℕ → Option OwnerOrCell → Bool
owns k None = false
owns k (Some h) = is_owner_of k h

-- how many owners of the slot's item have names
abbrev pub named_owners : ScriptState → ℕ → ℕ
named_owners d k = count_by (owns k) d.owners

-- what is named is the right to the cell
abbrev pub has_right : ℕ → Option OwnerOrCell → Bool
has_right c None = false
has_right c (Some h) = is_right_to c h

-- so many of each have names among these owners, cells and collectors
abbrev pub named_among : (owners cells collectors : List (Option OwnerOrCell)) → Claim → ℕ
named_among owners cells collectors (owner_of k) = count_by (owns k) owners
named_among owners cells collectors (right_to c) = count_by (has_right c) cells + count_by (has_right c) collectors

-- so many of each a script has outside its world, beside its queues, stacks and bags
abbrev pub named : ScriptState → Claim → ℕ
named d = named_among d.owners d.cells d.collectors

-- so many rights to cells these queues or stacks are
abbrev pub stacked : List (Option OwnerOrCell) → Claim → ℕ
stacked stacks (owner_of k) = 0
stacked stacks (right_to c) = count_by (has_right c) stacks

-- so many its queues, stacks and bags are together, of a queue and of a bag both cells counted
abbrev pub contained : ScriptState → Claim → ℕ
contained d u = stacked d.queues u + stacked d.newest u + stacked d.stacks u + bagged d.bags u

-- what has a name is of the world's home
abbrev pub AreAtHome : ScriptState → List (Option OwnerOrCell) → Type 0
AreAtHome d hs = (n : ℕ) (h : OwnerOrCell) → holding_at hs n ≡ Some h → IsOf d.world.home h

pub record NamesAreAtHome (d : ScriptState) : Type 0 where
  pub owners : AreAtHome d d.owners
  pub cells : AreAtHome d d.cells
  pub collectors : AreAtHome d d.collectors
  pub queues : AreAtHome d d.queues
  pub newest : AreAtHome d d.newest
  pub stacks : AreAtHome d d.stacks

-- who is there, and which guards are open
pub record ParticipantsMatch (d : ScriptState) : Type 0 where
  pub inside : (n : ℕ) (x : OpenSince) → opening_at d.places n ≡ Some x → IsPlaceOf d.world x.place
  pub apart : (n m : ℕ) (x y : OpenSince) → opening_at d.places n ≡ Some x → opening_at d.places m ≡ Some y → x.place ≡ y.place → n ≡ m
  pub opened : (p : ℕ) → (place_at d.world p).guards ≡ count_by (is_of p) d.guards
  -- a guard is that of a participant, which has not been without one since
  pub since : (g : ℕ) (y : OpenSince) → opening_at d.guards g ≡ Some y →
      (n : ℕ) × (x : OpenSince) × (opening_at d.places n ≡ Some x) × (x.place ≡ y.place) × (x.since ≤ y.since)
  -- in a line so far
  pub early : (n : ℕ) (x : OpenSince) → opening_at d.places n ≡ Some x → x.since ≤ d.moment
  -- an item, a cell, a queue, a stack or a bag was made by some participant, and its place, or another, is not free
  pub placed : 0 < length d.slots + length d.cells + length d.queues + length d.stacks + length d.bags → (p : ℕ) × IsSome (phase_at d.world.time p)

-- what began to wait since a participant's last outermost opening can't go as long as a guard of it is open
abbrev pub KeepsRecentItems : ScriptState → Type 0
KeepsRecentItems d = (n s : ℕ) (x : OpenSince) → opening_at d.places n ≡ Some x → IsTrue (is_open (place_at d.world x.place)) →
    IsTrue (is_waiting (standing_at d.world s)) → x.since ≤ date_at d s → IsSafe d.world x.place s

-- a guard of p has been open since before the job in place k of the table of jobs was deferred
pub record WasDeferredUnder (w : World Val) (p k : ℕ) : Type 0 where
  pub before : World Val
  pub whole : IsWhole before
  pub guarded : IsTrue (is_open (place_at before p))
  -- with whom it waits since
  pub holder : ℕ
  pub live : IsPlaceOf before holder
  pub free : IsEmptyAt before.jobs k
  pub calls : CallsUnder holdings_of p (deferred before holder k) w

-- what was deferred since a participant's last outermost opening was deferred under a guard of it, as long as one is open
abbrev pub KeepsRecentJobs : ScriptState → Type 0
KeepsRecentJobs d = (n k : ℕ) (x : OpenSince) → opening_at d.places n ≡ Some x → IsTrue (is_open (place_at d.world x.place)) →
    IsSome (entry_at d.world.jobs k) → x.since ≤ job_date_at d k → WasDeferredUnder d.world x.place k

-- when each job was deferred
pub record JobsHaveDates (d : ScriptState) : Type 0 where
  pub kept : KeepsRecentJobs d
  -- in a line so far
  pub early : (k : ℕ) → job_date_at d k ≤ d.moment
  pub long : length d.job_dates ≡ length d.world.jobs

-- what a value holds is an owner of an item that was made before its own: so with no owner outside, and none out as raw, all goes
abbrev pub HoldsOnlyOlder : ScriptState → Type 0
HoldsOnlyOlder d = (j k : ℕ) → 1 ≤ times_held holdings_of k (value_at d.world j) → number_in (name_at d k) < number_in (name_at d j)

-- each place of the table of jobs that is taken has a job's name, no two the same
pub record AreDeferred (jobs : ℕ) (deferred : List ℕ) (table : Entries (Unit {0})) : Type 0 where
  pub named : (k : ℕ) → IsSome (entry_at table k) → slice_index deferred k < jobs
  pub apart : (k m : ℕ) → IsSome (entry_at table k) → IsSome (entry_at table m) → slice_index deferred k ≡ slice_index deferred m → k ≡ m
  pub long : length deferred ≡ length table

pub record IsSound (d : ScriptState) : Type 0 where
  pub stocked : SlotsHaveNames d
  -- of each owner and each right to a cell there are as many as the world needs: those inside it, and those with names
  pub ledger : IsLedger holdings_of (λ u. named d u + contained d u) d.world
  -- each queue and each stack is there; a link that holds something is that of an entry of one, or of a bag's storage, or begins a list of numbers elsewhere
  pub lists : HasLists (IsListCell d) (IsSecondCell d) (IsStored d.bags d.world) d.world
  -- each bag is there, and the own cells of storages hold nothing
  pub bags : AreBags d
  pub spare : AreSpare d.world
  pub layered : HoldsOnlyOlder d
  pub home : NamesAreAtHome d
  pub attended : ParticipantsMatch d
  pub kept : KeepsRecentItems d
  -- in a line so far
  pub early : (s : ℕ) → date_at d s ≤ d.moment
  -- beside those with names a line makes at most 2^32 items, one in each slot; by this the tally balances at the end: no number of it is full
  pub made : d.world.tally.made ≤ length d.slots + d.moment * 2 ^ 32
  pub deferred : AreDeferred d.jobs d.deferred d.world.jobs
  pub jobs : JobsHaveDates d
  -- a line defers one job at most
  pub few : d.jobs ≤ d.moment

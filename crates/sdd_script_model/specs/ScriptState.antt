-- A script's world, and what its names stand for
use Rattle.std.specs.Prelude.{ℕ, ◌+◌, ◌*◌, ◌^◌, ◌<◌, ◌≤◌, ◌≡◌, ◌⊎◌, List, [], ◌∷◌, ◌++◌, Option, None, Some, IsSome, length, replicate, slice_index, slice_index_or, slice_set, if◌then◌else◌}
use Rattle.sdd_participants.specs.EpochState.{is_open}
use Rattle.sdd_participants.specs.Slab.{entry_at}
use Rattle.sdd_world_model.specs.Slots.{is_waiting}
use Rattle.sdd_world_model.specs.OwnerOrCell.{OwnerOrCell, owned, shared, atomic_owned, atomic_shared, atomic_raw}
use Rattle.sdd_world_model.specs.World.{World, IsNew, place_at, standing_at}
use Rattle.sdd_core.specs.declared.limits.Limits.{Limits}
use Rattle.sdd_bag.specs.Bag.{BagParts}
use Rattle.sdd_script_model.specs.declared.val.Body.{Body}
use Rattle.sdd_script_model.specs.Val.{Val}

-- a place that is open, or was: since which line
pub record OpenSince : Type 0 where
  pub place : ℕ
  pub since : ℕ

-- a bag of numbers, and how many lie in it itself, and in each of its other storages, at most
abbrev pub NumberBag : Type 0
NumberBag = BagParts ℕ Body

abbrev pub bag_length : ℕ
bag_length = 32

pub record ScriptState : Type 0 where
  -- how many lines there were, this one counted
  pub moment : ℕ
  pub world : World Val
  -- of each participant its place, and the line of its last outermost opening, until it ends
  pub places : List (Option OpenSince)
  -- of each guard its place, and the line of its opening, until it is closed
  pub guards : List (Option OpenSince)
  -- each owner, until it is spent
  pub owners : List (Option OwnerOrCell)
  -- each cell, until it is spent
  pub cells : List (Option OwnerOrCell)
  -- each collector, by its cell, until it is spent
  pub collectors : List (Option OwnerOrCell)
  -- each queue, by the cell in which its list begins, until it is spent
  pub queues : List (Option OwnerOrCell)
  -- of each queue the cell that owns its newest entry once more, until it is spent
  pub newest : List (Option OwnerOrCell)
  -- each stack, by its cell, until it is spent
  pub stacks : List (Option OwnerOrCell)
  -- each bag, until it is spent
  pub bags : List (Option NumberBag)
  -- of each item its slot
  pub slots : List ℕ
  -- of each slot the name of the item that it had last, if that had one
  pub names : List (Option ℕ)
  -- of each slot the line in which its item began to wait
  pub dates : List ℕ
  -- how many jobs there were
  pub jobs : ℕ
  -- of each place of the table of jobs the job that it had last
  pub deferred : List ℕ
  -- and the line in which that was deferred
  pub job_dates : List ℕ

-- ---- names

-- the guard or participant of this name
abbrev pub opening_at : List (Option OpenSince) → ℕ → Option OpenSince
opening_at xs n = slice_index_or xs n None

-- the owner or cell of this name
abbrev pub holding_at : List (Option OwnerOrCell) → ℕ → Option OwnerOrCell
holding_at xs n = slice_index_or xs n None

-- the bag of this name
abbrev pub bag_at : List (Option NumberBag) → ℕ → Option NumberBag
bag_at bs n = slice_index_or bs n None

abbrev pub slot_at : ScriptState → ℕ → ℕ
slot_at d i = slice_index_or d.slots i 0

-- the name of the item that a slot had last: one that a refused copy of a list made has none, and neither has a bag's storage
abbrev pub name_at : ScriptState → ℕ → Option ℕ
name_at d s = slice_index_or d.names s None

abbrev pub date_at : ScriptState → ℕ → ℕ
date_at d s = slice_index d.dates s

-- the job that a place of the table of jobs had last
abbrev pub job_at : ScriptState → ℕ → ℕ
job_at d k = slice_index d.deferred k

-- the line in which that was deferred
abbrev pub job_date_at : ScriptState → ℕ → ℕ
job_date_at d k = slice_index d.job_dates k

-- a job waits in a place of the table of jobs until it ran: the place has it last, and is not free
pub record WaitsAt (d : ScriptState) (j k : ℕ) : Type 0 where
  pub last : job_at d k ≡ j
  pub taken : IsSome (entry_at d.world.jobs k)

-- an item is there until it is reclaimed: its slot has it last, and is not free
pub record IsThere (d : ScriptState) (i : ℕ) : Type 0 where
  pub last : name_at d (slot_at d i) ≡ Some i
  pub taken : IsSome (standing_at d.world (slot_at d i))

-- ---- places

abbrev pub place_in : Option OpenSince → ℕ
place_in None = 0
place_in (Some x) = x.place

abbrev pub since_in : Option OpenSince → ℕ
since_in None = 0
since_in (Some x) = x.since

-- the place of a participant that is there
abbrev pub place_of : ScriptState → ℕ → ℕ
place_of d n = place_in (opening_at d.places n)

-- the line of its last outermost opening
abbrev pub since_of : ScriptState → ℕ → ℕ
since_of d n = since_in (opening_at d.places n)

-- ---- owners and cells

-- the slot of an owner
abbrev pub slot_of : Option OwnerOrCell → Option ℕ
slot_of None = None
slot_of (Some (owned k home)) = Some k
slot_of (Some (shared k home)) = Some k
slot_of (Some (atomic_owned c home)) = None
slot_of (Some (atomic_shared c home)) = None
slot_of (Some (atomic_raw c home)) = None

-- the slot of an only owner
abbrev pub sole_slot : Option OwnerOrCell → Option ℕ
sole_slot None = None
sole_slot (Some (owned k home)) = Some k
sole_slot (Some (shared k home)) = None
sole_slot (Some (atomic_owned c home)) = None
sole_slot (Some (atomic_shared c home)) = None
sole_slot (Some (atomic_raw c home)) = None

-- the slot of an owner of several
abbrev pub shared_slot : Option OwnerOrCell → Option ℕ
shared_slot None = None
shared_slot (Some (owned k home)) = None
shared_slot (Some (shared k home)) = Some k
shared_slot (Some (atomic_owned c home)) = None
shared_slot (Some (atomic_shared c home)) = None
shared_slot (Some (atomic_raw c home)) = None

-- the number of a cell that holds owners
abbrev pub cell_of : Option OwnerOrCell → Option ℕ
cell_of None = None
cell_of (Some (owned k home)) = None
cell_of (Some (shared k home)) = None
cell_of (Some (atomic_owned c home)) = Some c
cell_of (Some (atomic_shared c home)) = Some c
cell_of (Some (atomic_raw c home)) = None

-- the number of a cell for shared owners
abbrev pub shared_cell : Option OwnerOrCell → Option ℕ
shared_cell None = None
shared_cell (Some (owned k home)) = None
shared_cell (Some (shared k home)) = None
shared_cell (Some (atomic_owned c home)) = None
shared_cell (Some (atomic_shared c home)) = Some c
shared_cell (Some (atomic_raw c home)) = None

-- a queue begins in this cell
abbrev pub IsQueueCell : ScriptState → ℕ → Type 0
IsQueueCell d c = (n : ℕ) × (shared_cell (holding_at d.queues n) ≡ Some c)

-- a stack begins in this cell
abbrev pub IsStackCell : ScriptState → ℕ → Type 0
IsStackCell d c = (n : ℕ) × (shared_cell (holding_at d.stacks n) ≡ Some c)

-- a queue or a stack begins in this cell
abbrev pub IsListCell : ScriptState → ℕ → Type 0
IsListCell d c = IsQueueCell d c ⊎ IsStackCell d c

-- of the queue that begins in cell c this is the second cell
abbrev pub IsSecondCell : ScriptState → (c b : ℕ) → Type 0
IsSecondCell d c b = (n : ℕ) × (shared_cell (holding_at d.queues n) ≡ Some c) × (shared_cell (holding_at d.newest n) ≡ Some b)

-- the number of a collector's cell
abbrev pub collector_of : Option OwnerOrCell → Option ℕ
collector_of None = None
collector_of (Some (owned k home)) = None
collector_of (Some (shared k home)) = None
collector_of (Some (atomic_owned c home)) = None
collector_of (Some (atomic_shared c home)) = None
collector_of (Some (atomic_raw c home)) = Some c

-- ---- what changes

abbrev pub in_world : ScriptState → World Val → ScriptState
in_world d w = record d { world = w }

abbrev pub with_owner : ScriptState → OwnerOrCell → ScriptState
with_owner d h = record d { owners = d.owners ++ Some h ∷ [] }

abbrev pub without_owner : ScriptState → ℕ → ScriptState
without_owner d o = record d { owners = slice_set d.owners o None }

-- the next item is in slot k
abbrev pub with_item : ScriptState → ℕ → ScriptState
with_item d k = record d { slots = d.slots ++ k ∷ []; names = slice_set d.names k (Some (length d.slots)) }

-- these slots, in order, have items with the next names
abbrev pub names_from : List (Option ℕ) → (next : ℕ) → List ℕ → List (Option ℕ)
names_from names next [] = names
names_from names next (k ∷ ks) = names_from (slice_set names k (Some next)) (next + 1) ks

-- the next items are in these slots, in order
abbrev pub with_items : ScriptState → List ℕ → ScriptState
with_items d ks = record d { slots = d.slots ++ ks; names = names_from d.names (length d.slots) ks }

-- the next job is in place k of the table of jobs, since this line
abbrev pub with_job : ScriptState → ℕ → ScriptState
with_job d k =
    record d { jobs = d.jobs + 1; deferred = slice_set d.deferred k d.jobs; job_dates = slice_set d.job_dates k d.moment }

-- a newcomer is at place p
abbrev pub with_newcomer : ScriptState → ℕ → ScriptState
with_newcomer d p = record d { places = d.places ++ Some (record { place = p; since = 0 }) ∷ [] }

abbrev pub without_participant : ScriptState → ℕ → ScriptState
without_participant d n = record d { places = slice_set d.places n None }

-- participant n, at p, has one more guard open, since this line
abbrev pub with_guard : ScriptState → (n p : ℕ) → ScriptState
with_guard d n p =
    let now : OpenSince = record { place = p; since = d.moment } in
    record d {
      places = if is_open (place_at d.world p) then d.places else slice_set d.places n (Some now);
      guards = d.guards ++ Some now ∷ [];
    }

-- the next collector has cell c
abbrev pub with_collector : ScriptState → ℕ → ScriptState
with_collector d c = record d { collectors = d.collectors ++ Some (atomic_raw c d.world.home.cells) ∷ [] }

abbrev pub without_collector : ScriptState → ℕ → ScriptState
without_collector d k = record d { collectors = slice_set d.collectors k None }

-- the next queue has these cells
abbrev pub with_queue : ScriptState → (oldest newest : ℕ) → ScriptState
with_queue d oldest newest = record d {
  queues = d.queues ++ Some (atomic_shared oldest d.world.home.cells) ∷ [];
  newest = d.newest ++ Some (atomic_shared newest d.world.home.cells) ∷ [];
}

abbrev pub without_queue : ScriptState → ℕ → ScriptState
without_queue d q = record d { queues = slice_set d.queues q None; newest = slice_set d.newest q None }

-- the next stack has cell c
abbrev pub with_stack : ScriptState → ℕ → ScriptState
with_stack d c = record d { stacks = d.stacks ++ Some (atomic_shared c d.world.home.cells) ∷ [] }

abbrev pub without_stack : ScriptState → ℕ → ScriptState
without_stack d s = record d { stacks = slice_set d.stacks s None }

-- the next bag is this, and another one is this
abbrev pub with_bag : ScriptState → NumberBag → ScriptState
with_bag d b = record d { bags = d.bags ++ Some b ∷ [] }

abbrev pub with_bag_at : ScriptState → ℕ → NumberBag → ScriptState
with_bag_at d n b = record d { bags = slice_set d.bags n (Some b) }

abbrev pub without_bag : ScriptState → ℕ → ScriptState
without_bag d n = record d { bags = slice_set d.bags n None }

abbrev pub without_guard : ScriptState → ℕ → ScriptState
without_guard d g = record d { guards = slice_set d.guards g None }

-- one line later
abbrev pub later : ScriptState → ScriptState
later d = record d { moment = d.moment + 1 }

-- a line begins: nothing began to wait in it so far, there were fewer jobs than lines, and the tally has room for an item in each slot
pub record BeginsLine (d : ScriptState) : Type 0 where
  pub dates : (s : ℕ) → date_at d s < d.moment
  pub job_dates : (k : ℕ) → job_date_at d k < d.moment
  pub jobs : d.jobs < d.moment
  pub made : d.world.tally.made + 2 ^ 32 ≤ length d.slots + d.moment * 2 ^ 32

-- it is so now, whatever the dates are
abbrev pub Leaves : ScriptState → ScriptState → Type 0
Leaves d new = new ≡ record d { dates = new.dates }

-- of each slot whose item begins to wait this is the line; the others keep theirs
pub record IsDated (old new : ScriptState) : Type 0 where
  pub dated : (s : ℕ) → date_at new s
      ≡ (if is_waiting (standing_at new.world s) then (if is_waiting (standing_at old.world s) then date_at old s else old.moment) else date_at old s)
  pub long : length new.dates ≡ length old.dates

-- before its first line: the world is new, within these limits, and no name was given
pub record IsStart (limits : Limits) (d : ScriptState) : Type 0 where
  pub world : IsNew limits 0 d.world
  pub moment : d.moment ≡ 0
  pub places : d.places ≡ []
  pub guards : d.guards ≡ []
  pub owners : d.owners ≡ []
  pub cells : d.cells ≡ []
  pub collectors : d.collectors ≡ []
  pub queues : d.queues ≡ []
  pub newest : d.newest ≡ []
  pub stacks : d.stacks ≡ []
  pub bags : d.bags ≡ []
  pub slots : d.slots ≡ []
  pub dates : d.dates ≡ replicate limits.slots 0
  pub jobs : d.jobs ≡ 0
  pub deferred : d.deferred ≡ replicate limits.jobs 0
  pub job_dates : d.job_dates ≡ replicate limits.jobs 0

-- What is always true of a world
use Rattle.std.specs.Prelude.{ℕ, ◌+◌, ◌^◌, ◌<◌, ◌≤◌, ◌≡◌, ◌==◌, Bool, true, false, IsTrue, [], length, map, None, Some, is_some, All, sum_by, count_by}
use Rattle.sdd_participants.specs.declared.waiting.LimboEntry.{LimboEntry}
use Rattle.sdd_participants.specs.Waiting.{Waiting}
use Rattle.sdd_participants.specs.declared.waiting.LimboEntry.TheVariants.{Item, Job}
use Rattle.sdd_participants.specs.EpochState.{EpochState, is_open, no_garbage}
use Rattle.sdd_participants.specs.EpochState as time
use Rattle.sdd_participants.specs.Slab.{entry_at}
use Rattle.sdd_participants.specs.declared.place_states.PlaceState.TheVariants.{Live}
use Rattle.sdd_participants.specs.declared.tally.Tally.{Tally}
use Rattle.sdd_participants.specs.declared.participant.Participant.{Participant}
use Rattle.sdd_world_model.specs.Slots.{is_waiting}
use Rattle.sdd_world_model.specs.World.{World, place_at, standing_at}

-- what waits is the slot's item
abbrev pub is_of_slot : ℕ → LimboEntry → Bool
is_of_slot k (Item j) = j == k
is_of_slot k (Job j) = false

-- what waits is the job in the place
abbrev pub is_of_job : ℕ → LimboEntry → Bool
is_of_job j (Item k) = false
is_of_job j (Job n) = n == j

-- how often the slot's item stands among what waits with a participant
abbrev pub times_with : ℕ → Participant → ℕ
times_with k p = count_by (λ (w : Waiting). is_of_slot k w.what) p.bags.waiting

-- how often the job in the place does
abbrev pub jobs_with : ℕ → Participant → ℕ
jobs_with j p = count_by (λ (w : Waiting). is_of_job j w.what) p.bags.waiting

-- once if so, else never
abbrev pub once_if : Bool → ℕ
once_if true = 1
once_if false = 0

module _ {T : Type 0} where
  -- how often it stands among all that waits
  abbrev pub times_waiting : World T → ℕ → ℕ
  times_waiting w k = sum_by (times_with k) w.time.places

  abbrev pub times_deferred : World T → ℕ → ℕ
  times_deferred w j = sum_by (jobs_with j) w.time.places

  -- how many slots are not free
  abbrev pub taken : World T → ℕ
  taken w = count_by is_some w.standings

-- a participant keeps up with this count of epochs
pub record KeepsUp (count : ℕ) (p : Participant) : Type 0 where
  -- it has found no count above it
  pub found : p.found ≤ count
  -- what it has published is this count or the one before
  pub near : IsTrue (is_open p) → count ≤ p.found + 1
  -- what waits with it has seen two changes at most
  pub young : All (λ (w : Waiting). w.seen ≤ 2) p.bags.waiting
  pub countdown : p.countdown ≤ no_garbage
  -- without garbage nothing waits with it
  pub quiet : p.countdown ≡ no_garbage → p.bags.waiting ≡ []

-- each item that was made has its slot, was reclaimed, or was dropped in place; while the numbers have room
abbrev pub IsCounted : Tally → ℕ → Type 0
IsCounted t there = t.made + 1 < 2 ^ 128 → t.made ≡ t.reclaimed + t.in_place + there

-- each place has its phase: only a live one has a guard open, and nothing waits at a free one
pub record PlacesMatchStates (t : EpochState) : Type 0 where
  pub lengths : length t.phases ≡ length t.places
  pub shut : (p : ℕ) → IsTrue (is_open (time.place_at t p)) → time.phase_at t p ≡ Some Live
  pub bare : (p : ℕ) → time.phase_at t p ≡ None → (time.place_at t p).bags.waiting ≡ []

pub record IsWhole {T : Type 0} (w : World T) : Type 0 where
  -- a value is exactly where a slot is not free
  pub filled : map is_some w.values ≡ map is_some w.standings
  -- the item of a slot that waits stands once among all that waits, and no other does
  pub once : (k : ℕ) → times_waiting w k ≡ once_if (is_waiting (standing_at w k))
  -- a job waits once exactly where a place of the table of jobs is taken
  pub jobs_once : (j : ℕ) → times_deferred w j ≡ once_if (is_some (entry_at w.jobs j))
  pub abreast : (p : ℕ) → KeepsUp w.time.count (place_at w p)
  pub housed : PlacesMatchStates w.time
  pub counted : IsCounted w.tally (taken w)

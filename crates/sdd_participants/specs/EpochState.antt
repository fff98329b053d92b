-- The epoch of a world, and its participants
use Rattle.std.specs.Prelude.{ℕ, zero, suc, ◌+◌, ◌-◌, ◌^◌, ◌==◌, ◌&&◌, ◌||◌, ◌≡◌, ◌<◌, ◌≤◌, ◌⊎◌, All, Bool, true, false, IsTrue, List, [], ◌∷◌, ◌++◌, Option, Some, None, length, map, slice_index_or, slice_set, sum_by, if◌then◌else◌, nat_lt, not}
use Rattle.std.specs.List.{list_all}
use Rattle.sdd_participants.specs.declared.waiting.LimboEntry.{LimboEntry}
use Rattle.sdd_participants.specs.Waiting.{Waiting, fresh, anew, aged, due, left}
use Rattle.sdd_participants.specs.Bags.{Bags}
use Rattle.sdd_participants.specs.Slab.{Entries, entry_at, with_entry, without_entry, IsEmptyAt, IsFull}
use Rattle.sdd_participants.specs.PlaceStates.{PlaceStates, is_live, is_ended}
use Rattle.sdd_participants.specs.declared.place_states.PlaceState.{PlaceState}
use Rattle.sdd_participants.specs.declared.place_states.PlaceState.TheVariants.{Live, Ended}
use Rattle.sdd_participants.specs.declared.participant.Participant.{Participant}
use Rattle.sdd_participants.specs.declared.participant.CountdownState.{CountdownState}

-- the count of epochs, the ended mark, the places there are so far, what each of them is, how many there may be,
-- how deep guards nest, and how much may wait with one
pub record EpochState : Type 0 where
  pub count : ℕ
  pub marked : Bool
  pub places : List Participant
  pub phases : Entries PlaceState
  pub participants : ℕ
  pub nesting : ℕ
  pub room : ℕ

-- the last count: a scan no longer raises it
abbrev pub last_count : ℕ
last_count = 2 ^ 64 - 1

-- the countdown of a participant without garbage, and the one from the moment on when it has some, and after each scan:
-- after so many outermost closes the next one scans
abbrev pub no_garbage : ℕ
no_garbage = 128

abbrev pub closes_to_scan : ℕ
closes_to_scan = 127

-- the outermost closes from one scan to the next, with the one that scans
abbrev pub scan_period : ℕ
scan_period = 128

-- a participant that has just registered, with these bags
abbrev pub newcomer_with : Bags → Participant
newcomer_with bags = record { found = 0; countdown = no_garbage; guards = 0; bags = bags }

abbrev pub newcomer : ℕ → Participant
newcomer room = newcomer_with (record { waiting = []; room = room })

-- what stands at a number that is no place
abbrev pub nobody : Participant
nobody = newcomer 0

abbrev pub place_at : EpochState → ℕ → Participant
place_at t p = slice_index_or t.places p nobody

abbrev pub with_place : EpochState → ℕ → Participant → EpochState
with_place t p x = record t { places = slice_set t.places p x }

abbrev pub is_open : Participant → Bool
is_open p = nat_lt 0 p.guards

-- the count that an open participant published is the last one that it found
abbrev pub published : Participant → Option ℕ
published p = if is_open p then Some p.found else None

-- a place is free, or a participant's, or has ended: then what it left waits there until it is adopted
abbrev pub phase_at : EpochState → ℕ → Option PlaceState
phase_at t p = entry_at t.phases p

-- which places are a participant's
abbrev pub lives : EpochState → List Bool
lives t = map is_live t.phases

-- no place has ended, but may be free or live
abbrev pub NobodyEnded : Entries PlaceState → Type 0
NobodyEnded phases = (q : ℕ) → is_ended (entry_at phases q) ≡ false

-- the place is there, and a participant's
abbrev pub IsLive : EpochState → ℕ → Type 0
IsLive t p = (p < length t.places) × IsTrue (slice_index_or (lives t) p false)

-- all participant places are taken: none is free, and no more may be made
abbrev pub IsCrowded : EpochState → Type 0
IsCrowded t = IsFull t.phases × (t.participants ≤ length t.places)

-- the place can be taken: it is free, or it is the next one, and may be made
abbrev pub IsVacant : EpochState → ℕ → Type 0
IsVacant t p = IsEmptyAt t.phases p ⊎ ((p ≡ length t.places) × (p < t.participants))

-- the place is a newcomer's
abbrev pub registered : EpochState → ℕ → EpochState
registered t p =
    if nat_lt p (length t.places) then record t { places = slice_set t.places p (newcomer t.room); phases = with_entry t.phases p Live }
    else record t { places = t.places ++ newcomer t.room ∷ []; phases = t.phases ++ Some Live ∷ [] }

-- the participant has ended: what waits with it is left there, and the mark is set
abbrev pub ended : EpochState → ℕ → EpochState
ended t p = record t { phases = with_entry t.phases p Ended; marked = true }

-- the place is a participant's, with what waits there, also where one had ended
abbrev pub revived : EpochState → ℕ → EpochState
revived t p = record t { phases = with_entry t.phases p Live }

-- one guard more is within the limit
abbrev pub CanNest : EpochState → ℕ → Type 0
CanNest t p = (place_at t p).guards < t.nesting

-- there is garbage
abbrev pub stirred : ℕ → ℕ
stirred countdown = if countdown == no_garbage then closes_to_scan else countdown

abbrev pub with_garbage : Participant → Participant
with_garbage p = record p { countdown = stirred p.countdown }

abbrev pub has_garbage : Participant → Bool
has_garbage p = not (p.countdown == no_garbage)

abbrev pub accelerated : Participant → Participant
accelerated p = record p { countdown = 0 }

-- x waits here from now on
abbrev pub awaiting : LimboEntry → Participant → Participant
awaiting x p = record (with_garbage p) { bags = record p.bags { waiting = p.bags.waiting ++ fresh x ∷ [] } }

-- one guard more is open
abbrev pub nested : Participant → Participant
nested p = record p { guards = p.guards + 1 }

-- a change: the participant has found this count, and what waits has seen one change more
abbrev pub rotated : ℕ → Participant → Participant
rotated count p = record p { found = count; bags = record p.bags { waiting = left (aged p.bags.waiting) } }

-- what the next change of the participant makes due
abbrev pub due_next : Participant → List LimboEntry
due_next p = due (aged p.bags.waiting)

-- after a rotation and the drops: there is garbage exactly where something waits
abbrev pub settled : Participant → Participant
settled p = record p { countdown = elim (p.bags.waiting) [ [] ↦ no_garbage | x ∷ xs ↦ closes_to_scan ] }

-- the count that a participant found last, and its countdown
abbrev pub pace_of : Participant → CountdownState
pace_of p = record { found = p.found; countdown = p.countdown }

abbrev pub paced : CountdownState → Participant → Participant
paced pace p = record p { found = pace.found; countdown = pace.countdown }

-- the same at a place
abbrev pub stirred_at : EpochState → ℕ → EpochState
stirred_at t p = with_place t p (with_garbage (place_at t p))

abbrev pub accelerated_at : EpochState → ℕ → EpochState
accelerated_at t p = with_place t p (accelerated (place_at t p))

abbrev pub awaiting_at : EpochState → ℕ → LimboEntry → EpochState
awaiting_at t p x = with_place t p (awaiting x (place_at t p))

abbrev pub nested_at : EpochState → ℕ → EpochState
nested_at t p = with_place t p (nested (place_at t p))

abbrev pub rotated_at : EpochState → ℕ → EpochState
rotated_at t p = with_place t p (rotated t.count (place_at t p))

abbrev pub settled_at : EpochState → ℕ → EpochState
settled_at t p = with_place t p (settled (place_at t p))

abbrev pub paced_at : EpochState → ℕ → CountdownState → EpochState
paced_at t p pace = with_place t p (paced pace (place_at t p))

-- p finds another count than the last one that it found
abbrev pub finds_another : EpochState → ℕ → Bool
finds_another t p = not ((place_at t p).found == t.count)

-- an outermost opening is a change where it finds another count
abbrev pub caught_up : EpochState → ℕ → EpochState
caught_up t p = if finds_another t p then settled_at (rotated_at t p) p else t

abbrev pub opened : EpochState → ℕ → EpochState
opened t p = if is_open (place_at t p) then nested_at t p else caught_up (nested_at t p) p

-- what an opening of p makes due: at an outermost one that finds another count, what then has seen three changes of p
abbrev pub due_at : EpochState → ℕ → List LimboEntry
due_at t p = if is_open (place_at t p) then [] else (if finds_another t p then due_next (place_at t p) else [])

-- all this waits here from now on, as if it were retired now
abbrev pub adopting : List Waiting → Participant → Participant
adopting ws p = record p { bags = record p.bags { waiting = p.bags.waiting ++ map anew ws } }

-- nothing waits here any more
abbrev pub without_waiting : Participant → Participant
without_waiting p = record p { bags = record p.bags { waiting = [] } }

-- p adopts what waits with q, and q is free
abbrev pub adopted_from : EpochState → (p q : ℕ) → EpochState
adopted_from t p q =
    record (with_place (with_place t p (adopting (place_at t q).bags.waiting (place_at t p))) q (without_waiting (place_at t q)))
    { phases = without_entry t.phases q }

-- p adopts what each place below n left that has ended, one place after another
abbrev pub adopted_below : EpochState → (p n : ℕ) → EpochState
adopted_below t p zero = t
adopted_below t p (suc n) =
    let before : EpochState = adopted_below t p n in
    if is_ended (phase_at before n) then adopted_from before p n else before

-- p adopts all that was left so far
abbrev pub adopted : EpochState → ℕ → EpochState
adopted t p = adopted_below t p (length t.places)

-- a scan at this count passes the place
abbrev pub passes : ℕ → Participant → Bool
passes count p = not (is_open p) || p.found == count

-- the count is raised, if every place passes and it isn't the last
abbrev pub raised : EpochState → EpochState
raised t = if nat_lt t.count last_count && list_all (passes t.count) t.places then record t { count = t.count + 1 } else t

-- the scan of p does nothing if its found count isn't the count; else it clears the mark and adopts before it looks at the others
abbrev pub scanned : EpochState → ℕ → EpochState
scanned t p = if (place_at t p).found == t.count then raised (record (adopted t p) { marked = false }) else t

-- the countdown after an outermost close
abbrev pub counted_down : Bool → ℕ → ℕ
counted_down marked countdown =
    if countdown == 0 then closes_to_scan
    else (if countdown == no_garbage then (if marked then closes_to_scan else no_garbage) else countdown - 1)

-- the last guard is closed, with the ended mark as it was found
abbrev pub rested : Bool → Participant → Participant
rested marked p = record p { guards = 0; countdown = counted_down marked p.countdown }

-- the last guard of p is closed: at countdown 0 after a scan
abbrev pub left_by : EpochState → ℕ → EpochState
left_by t p =
    let scanned_first : EpochState = if (place_at t p).countdown == 0 then scanned t p else t in
    with_place scanned_first p (rested t.marked (place_at scanned_first p))

-- a guard of p is closed; without an open one nothing happens
abbrev pub closed : EpochState → ℕ → EpochState
closed t p =
    if nat_lt 1 (place_at t p).guards then with_place t p (record (place_at t p) { guards = (place_at t p).guards - 1 })
    else (if is_open (place_at t p) then left_by t p else t)

-- how much waits with a participant
abbrev pub waiting_count : Participant → ℕ
waiting_count p = length p.bags.waiting

-- each place has its room and its phase, there is memory for as many as there may be, where one has ended the mark is set, and a guard may be opened
pub record IsEpochState (places : List Participant) (phases : PlaceStates) (marked : Bool) (nesting room capacity : ℕ) : Type 0 where
  pub reserved : All (λ (p : Participant). p.bags.room ≡ room) places
  pub phased : length phases.entries ≡ length places
  pub kept : phases.room ≤ capacity
  pub told : marked ≡ false → NobodyEnded phases.entries
  pub nests : 0 < nesting

-- as many places, the same participants and limits, and as much waits as before
pub record KeepsPlaces (old new : EpochState) : Type 0 where
  pub places : length new.places ≡ length old.places
  pub lives : lives new ≡ lives old
  pub participants : new.participants ≡ old.participants
  pub nesting : new.nesting ≡ old.nesting
  pub room : new.room ≡ old.room
  pub waiting : sum_by waiting_count new.places ≡ sum_by waiting_count old.places

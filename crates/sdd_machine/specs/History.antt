-- Histories, and what it means that one is safe and exact. Bags are looked at only to say what the machine
-- reclaimed; what it has to reclaim is said of the list of steps.
use Rattle.std.specs.Prelude.{◌≡◌, ℕ, ◌+◌, Bool, false, not, ◌||◌, if◌then◌else◌, ◌==◌, IsTrue, List, [], ◌∷◌, ◌++◌, ◌↔◌, slice_index_or}
use Rattle.std.specs.FinSet as set
use Rattle.sdd_machine.specs.declared.machine.steps.Step.{Step}
use Rattle.sdd_machine.specs.declared.machine.steps.Step.TheVariants.{Register, Read, Publish, Retire, Adopt, Close, End}
use Rattle.sdd_core.specs.Epoch.{epoch_of}
use Rattle.sdd_machine.specs.declared.machine.steps.Did.TheVariants.{Opened}
use Rattle.sdd_machine.specs.Table.{Size, State, Items, new_state, possible, after, did, place_at}

-- A moment is the list of the steps taken by then, the newest first.

-- what a machine of this size is at a moment
abbrev pub state : Size → List Step → State
state size [] = new_state size
state size (step ∷ past) = after (state size past) step

-- the moment after more steps, the oldest first: those that are not possible are left out
abbrev pub goes_on : Size → List Step → List Step → List Step
goes_on size past [] = past
goes_on size past (step ∷ steps) = goes_on size (if possible (state size past) step then step ∷ past else past) steps

-- the history of a list of steps
abbrev pub history : Size → List Step → List Step
history size steps = goes_on size [] steps

-- the one moment lies in the past of the other, or is the same
abbrev pub IsEarlier : List Step → List Step → Type 0
IsEarlier earlier moment = (later : List Step) × (moment ≡ later ++ earlier)

-- the count at a moment
abbrev pub count_at : Size → List Step → ℕ
count_at size moment = (state size moment).count

-- and the epoch that shows it
abbrev pub epoch_at : Size → List Step → ℕ
epoch_at size moment = epoch_of (count_at size moment)

-- GUARDS

-- the place closes in these steps
abbrev pub closes : ℕ → List Step → Bool
closes place [] = false
closes place (Close p ∷ steps) = p == place || closes place steps
closes place (_ ∷ steps) = closes place steps

-- the guard that the place published at one moment is open at another: the place has not closed in between
pub record IsOpenGuard (place : ℕ) (published moment : List Step) : Type 0 where
  pub before : List Step
  pub inside : List Step
  pub publish : published ≡ Publish place ∷ before
  pub follows : moment ≡ inside ++ published
  pub unclosed : closes place inside ≡ false

-- no guard that was open at the one moment is open at the other
abbrev pub NoGuardLasts : List Step → List Step → Type 0
NoGuardLasts from to = (guard : ℕ) (published : List Step) → IsOpenGuard guard published from → IsOpenGuard guard published to → ⊥

-- CHANGES

-- the count that the place read last
abbrev pub last_read : Size → ℕ → List Step → ℕ
last_read size place [] = 0
last_read size place (Read p ∷ past) = if p == place then count_at size past else last_read size place past
last_read size place (_ ∷ past) = last_read size place past

-- the count that the place published last since it registered, 0 with none
abbrev pub last_published : Size → ℕ → List Step → ℕ
last_published size place [] = 0
last_published size place (Publish p ∷ past) = if p == place then last_read size place past else last_published size place past
last_published size place (Register p ∷ past) = if p == place then 0 else last_published size place past
last_published size place (_ ∷ past) = last_published size place past

-- whether a publish of the place would be a change: its count differs from that of the publish before
abbrev pub is_change : Size → ℕ → List Step → Bool
is_change size place past = not (last_read size place past == last_published size place past)

-- HOLDERS

-- What became of an item: it was never retired; it waits with its holder, who has changed so many times since its
-- start; its holder ended before the third change; or the third change came. The start is the retirement, or the
-- last adopt.
pub data Fate : Type 0 where
  Kept : Fate
  Waits : (holder changes : ℕ) → Fate
  Left : (holder changes : ℕ) → Fate
  Gone : Fate

-- the place changes
abbrev pub changed : ℕ → Fate → Fate
changed place (Waits holder changes) = if place == holder then (if changes == 2 then Gone else Waits holder (changes + 1)) else Waits holder changes
changed place fate = fate

-- the place ends
abbrev pub ended : ℕ → Fate → Fate
ended place (Waits holder changes) = if place == holder then Left holder changes else Waits holder changes
ended place fate = fate

-- the place adopts
abbrev pub taken_over : ℕ → Fate → Fate
taken_over place (Left holder changes) = Waits place 0
taken_over place fate = fate

abbrev pub fate : Size → ℕ → List Step → Fate
fate size item [] = Kept
fate size item (Retire place i ∷ past) = if i == item then Waits place 0 else fate size item past
fate size item (Publish place ∷ past) = if is_change size place past then changed place (fate size item past) else fate size item past
fate size item (End place ∷ past) = ended place (fate size item past)
fate size item (Adopt place ∷ past) = taken_over place (fate size item past)
fate size item (_ ∷ past) = fate size item past

-- the item waits with this holder, who may have ended since
abbrev pub IsHolder : ℕ → Fate → Type 0
IsHolder place Kept = ⊥
IsHolder place (Waits holder changes) = place ≡ holder
IsHolder place (Left holder changes) = place ≡ holder
IsHolder place Gone = ⊥

-- DUE

-- at this moment the item's holder has just changed for the third time since its start
abbrev pub IsDue : Size → ℕ → List Step → Type 0
IsDue size item (Publish place ∷ past) = IsTrue (is_change size place past) × (fate size item past ≡ Waits place 2)
IsDue size item _ = ⊥

-- its due publish lies in the history
abbrev pub WasDue : Size → ℕ → List Step → Type 0
WasDue size item moment = (earlier : List Step) × IsEarlier earlier moment × IsDue size item earlier

-- WHAT THE MACHINE RECLAIMED

-- the item is in a bag of the place
abbrev pub IsWith : State → ℕ → ℕ → Type 0
IsWith s place item =
    let x = place_at s place in
    IsTrue (set.contains x.current item || set.contains x.prev item || set.contains x.next item)

-- it was retired, and is in no bag
pub record IsReclaimed (s : State) (item : ℕ) : Type 0 where
  pub retired : IsTrue (slice_index_or s.retired item false)
  pub nowhere : (place : ℕ) → IsWith s place item → ⊥

-- the newest step reclaimed it
abbrev pub Reclaims : Size → ℕ → List Step → Type 0
Reclaims size item [] = ⊥
Reclaims size item (step ∷ past) = IsReclaimed (state size (step ∷ past)) item × (IsReclaimed (state size past) item → ⊥)

-- SAFE AND EXACT

-- the item was retired by the step that follows the one moment, and the other goes on from there
pub record IsRetirement (item : ℕ) (retirement moment : List Step) : Type 0 where
  pub place : ℕ
  pub later : List Step
  pub follows : moment ≡ later ++ Retire place item ∷ retirement

-- at the reclaim of an item no guard that was open at its retirement is open
abbrev pub Safe : Size → List Step → Type 0
Safe size moment = (item : ℕ) (retirement : List Step) → IsRetirement item retirement moment →
    Reclaims size item moment → NoGuardLasts retirement moment

-- A publish tells the count that its place read last, whether that makes it a change, and how many items are due at
-- it.
pub record Tells (size : Size) (place : ℕ) (past : List Step) : Type 0 where
  pub due : Items
  pub each : (item : ℕ) → IsTrue (set.contains due item) ↔ IsDue size item (Publish place ∷ past)
  pub answer : did (state size past) (Publish place) ≡ Opened (last_read size place past) (is_change size place past) (set.len due)

-- the newest step reclaims exactly what is due at it, a publish tells so, and what was reclaimed is not reclaimed
-- again
pub record Exact (size : Size) (moment : List Step) : Type 0 where
  pub due : (item : ℕ) → Reclaims size item moment ↔ IsDue size item moment
  pub told : (place : ℕ) (past : List Step) → moment ≡ Publish place ∷ past → Tells size place past
  pub once : (item : ℕ) (newest : Step) (later earlier : List Step) → moment ≡ newest ∷ (later ++ earlier) →
      Reclaims size item earlier → Reclaims size item moment → ⊥

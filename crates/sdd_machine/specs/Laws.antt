-- What every history of a machine keeps
use Rattle.std.specs.Prelude.{◌≡◌, ℕ, ◌+◌, ◌⊎◌, IsTrue, List, ◌++◌, false, ◌↔◌, slice_index_or}
use Rattle.sdd_machine.specs.declared.machine.steps.Step.{Step}
use Rattle.sdd_core.specs.Epoch.{same_generation}
use Rattle.sdd_machine.specs.Table.{Size, State}
use Rattle.sdd_machine.specs.Sizes.{size_for}
use Rattle.sdd_machine.specs.History.{state, history, count_at, epoch_at, fate, IsEarlier, IsOpenGuard, NoGuardLasts, IsRetirement, IsWith, IsHolder, IsReclaimed, WasDue}

-- the items reclaimed by this moment are exactly those whose due publish lies in the history
abbrev pub ReclaimsWhatWasDue : Size → List Step → Type 0
ReclaimsWhatWasDue size moment = (item : ℕ) → IsReclaimed (state size moment) item ↔ WasDue size item moment

-- an item that was retired and not reclaimed has one holder, and is in this holder's bags and in no others
pub record WaitsWithOneHolder (size : Size) (moment : List Step) : Type 0 where
  pub bags : (item place : ℕ) → IsWith (state size moment) place item ↔ IsHolder place (fate size item moment)
  pub some : (item : ℕ) → IsTrue (slice_index_or (state size moment).retired item false) →
      (IsReclaimed (state size moment) item → ⊥) → (place : ℕ) × IsHolder place (fate size item moment)
  pub one : (item p q : ℕ) → IsWith (state size moment) p item → IsWith (state size moment) q item → p ≡ q

-- while a guard is open the count is the one at its publish, or the next
abbrev pub IsRaisedAtMostOnce : Size → List Step → Type 0
IsRaisedAtMostOnce size moment = (guard : ℕ) (published : List Step) → IsOpenGuard guard published moment →
    (count_at size moment ≡ count_at size published) ⊎ (count_at size moment ≡ count_at size published + 1)

-- one guard is open at both moments
pub record AreUnderOneGuard (one other : List Step) : Type 0 where
  pub guard : ℕ
  pub published : List Step
  pub open_at_one : IsOpenGuard guard published one
  pub open_at_other : IsOpenGuard guard published other

-- The epoch was seen under the guard under which an item was retired. Where the epoch is of another generation now,
-- after both, no guard that was open at the retirement is open.
abbrev pub KeepsGenerations : Size → List Step → Type 0
KeepsGenerations size now = (item : ℕ) (seen retirement : List Step) → AreUnderOneGuard seen retirement →
    IsEarlier seen now → IsRetirement item retirement now →
    same_generation (epoch_at size seen) (epoch_at size now) ≡ false → NoGuardLasts retirement now

-- the state after a list of steps, in a machine as large as they need
abbrev pub state_after : List Step → State
state_after steps = let size = size_for steps in state size (history size steps)

-- in a machine of any size, a fact holds after each beginning of a list of steps
abbrev pub AtEachMoment : List Step → (Size → List Step → Type 0) → Type 0
AtEachMoment steps Fact = (size : Size) (beginning rest : List Step) → beginning ++ rest ≡ steps → Fact size (history size beginning)

-- What can't go, and doesn't run, while a guard is open
use Rattle.std.specs.Prelude.{ℕ, ◌+◌, ◌-◌, ◌≤◌, ◌≡◌, ◌⊎◌, Contains, IsSome, IsTrue, List, Option, Some, min}
use Rattle.sdd_participants.specs.EpochState.{is_open}
use Rattle.sdd_participants.specs.Slab.{IsEmptyAt, entry_at}
use Rattle.sdd_participants.specs.declared.waiting.LimboEntry.{LimboEntry}
use Rattle.sdd_participants.specs.declared.waiting.LimboEntry.TheVariants.{Job}
use Rattle.sdd_participants.specs.declared.standing.Standing.TheVariants.{Retired, Private as privately}
use Rattle.sdd_participants.specs.declared.standing.Standing.{Standing}
use Rattle.sdd_world_model.specs.Slots.{IsWaiting}
use Rattle.sdd_world_model.specs.OwnerOrCell.{OwnerOrCell}
use Rattle.sdd_world_model.specs.World.{World, place_at, standing_at, value_at, IsPlaceOf}
use Rattle.sdd_world_model.specs.WorldChanges.{deferred, reclaims, retired}
use Rattle.sdd_world_model.specs.Collecting.{collected}
use Rattle.sdd_world_model.specs.WorldStep.{WorldStep}
use Rattle.sdd_world_model.specs.ReclaimBound.{Waits, WaitsWith}
use Rattle.sdd_world_model.specs.Out.{is_out}

-- how many changes q can make while the guard stays open that p published: at most one for this count, if q has not found it yet, and one for the next
abbrev pub more : {T : Type 0} → World T → (p q : ℕ) → ℕ
more w p q = min 2 ((place_at w p).found + 1 - (place_at w q).found)

-- the slot's item waits, and can't see a third change while p's guard is open
pub record IsUnder {T : Type 0} (w : World T) (p k : ℕ) : Type 0 where
  pub guarded : IsTrue (is_open (place_at w p))
  pub waiting : IsWaiting (standing_at w k)
  pub holder : ℕ
  pub seen : ℕ
  pub waits : Waits w holder k seen
  pub safe : seen + more w p holder ≤ 2

-- the slot's item waits still and can't see a third change, stands so, and has the value that it had
pub record StaysUnder {T : Type 0} (old new : World T) (p k : ℕ) (s : Option Standing) : Type 0 where
  pub under : IsUnder new p k
  pub standing : standing_at new k ≡ s
  pub value : value_at new k ≡ value_at old k

-- what waits can't see a third change while p's guard is open
pub record IsHeldBack {T : Type 0} (w : World T) (p : ℕ) (what : LimboEntry) : Type 0 where
  pub guarded : IsTrue (is_open (place_at w p))
  pub holder : ℕ
  pub seen : ℕ
  pub waits : WaitsWith w holder what seen
  pub safe : seen + more w p holder ≤ 2

-- the job waits still and can't see a third change, so its place is taken, and no opening runs it
pub record JobStaysUnder {T : Type 0} (w : World T) (p j : ℕ) : Type 0 where
  pub under : IsHeldBack w p (Job j)
  pub there : IsSome (entry_at w.jobs j)
  pub not_due : (r : ℕ) → IsPlaceOf w r → ¬ (Contains (reclaims w r) (Job j))

-- while p's guard is open the slot's item can't go: it is out, or waits and can't see a third change
abbrev pub CannotGo : {T : Type 0} → World T → (p k : ℕ) → Type 0
CannotGo w p k = IsTrue (is_out (standing_at w k)) ⊎ IsUnder w p k

-- and p's guard is open
pub record IsSafe {T : Type 0} (w : World T) (p k : ℕ) : Type 0 where
  pub guarded : IsTrue (is_open (place_at w p))
  pub stays : CannotGo w p k

module _ {T : Type 0} (holds : T → List OwnerOrCell) where
  -- calls, one after another, while a guard of p is open all along
  pub data CallsUnder (p : ℕ) : World T → World T → Type 0 where
    none : (w : World T) → IsTrue (is_open (place_at w p)) → CallsUnder p w w
    more_calls : (u v w : World T) → CallsUnder p u v → WorldStep holds v w → IsTrue (is_open (place_at w p)) → CallsUnder p u w

  -- the law: an item that is retired while a guard of p is open waits in its slot, with its value, as long as that guard is, and can't go
  abbrev pub KeepsUnderGuards : World T → Type 0
  KeepsUnderGuards w = (p q k : ℕ) → IsTrue (is_open (place_at w p)) → IsPlaceOf w q → IsTrue (is_out (standing_at w k)) →
      (new : World T) → CallsUnder p (retired w q k) new → StaysUnder w new p k (Some Retired)

  -- the same of an item that is collected
  abbrev pub KeepsCollectedUnderGuards : World T → Type 0
  KeepsCollectedUnderGuards w = (p q c k : ℕ) → IsTrue (is_open (place_at w p)) → IsPlaceOf w q → IsTrue (is_out (standing_at w k)) →
      (new : World T) → CallsUnder p (collected w q c k) new → StaysUnder w new p k (Some (privately c))

  -- the same of every item that has seen no change of its holder yet, as each one when it begins to wait: retired by its owner, collected, or given up
  -- by a value
  abbrev pub KeepsFreshUnderGuards : World T → Type 0
  KeepsFreshUnderGuards w = (p q k : ℕ) → IsTrue (is_open (place_at w p)) → Waits w q k 0 →
      (new : World T) → CallsUnder p w new → StaysUnder w new p k (standing_at w k)

  -- the same of a job: one that is deferred while a guard of p is open waits in its place as long as that guard is, and no opening runs it
  abbrev pub KeepsJobsUnderGuards : World T → Type 0
  KeepsJobsUnderGuards w = (p q j : ℕ) → IsTrue (is_open (place_at w p)) → IsPlaceOf w q → IsEmptyAt w.jobs j →
      (new : World T) → CallsUnder p (deferred w q j) new → JobStaysUnder new p j

  -- and of every job that has seen no change of its holder yet, as each one when it is deferred or was adopted
  abbrev pub KeepsFreshJobsUnderGuards : World T → Type 0
  KeepsFreshJobsUnderGuards w = (p q j : ℕ) → IsTrue (is_open (place_at w p)) → WaitsWith w q (Job j) 0 →
      (new : World T) → CallsUnder p w new → JobStaysUnder new p j

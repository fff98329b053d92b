-- When what waits goes while its holder works under accelerated guards
use Rattle.std.specs.Prelude.{ℕ, ◌+◌, ◌-◌, ◌<◌, ◌≤◌, ◌≡◌, IsTrue, List, Some, length, ◌⊎◌, if◌then◌else◌}
use Rattle.sdd_participants.specs.declared.waiting.LimboEntry.{LimboEntry}
use Rattle.sdd_participants.specs.Slab.{IsEmptyAt}
use Rattle.sdd_participants.specs.declared.standing.CellContents.{CellContents}
use Rattle.sdd_participants.specs.declared.standing.Standing.TheVariants.{Owned, Shared}
use Rattle.sdd_participants.specs.EpochState.{EpochState, finds_another, is_open, last_count}
use Rattle.sdd_participants.specs.EpochState as time
use Rattle.sdd_world_model.specs.OwnerOrCell.{OwnerOrCell}
use Rattle.sdd_world_model.specs.World.{World, AnyGuardOpen, IsPlaceOf, place_at, standing_at}
use Rattle.sdd_world_model.specs.WorldChanges.{made, made_shared, retired, owner_given, deferred, with_cell, opened, accelerated, closed}
use Rattle.sdd_world_model.specs.WorldStep.{WorldStep}
use Rattle.sdd_world_model.specs.WorldStep.WorldStep.{registers, ends, opens, closes}
use Rattle.sdd_world_model.specs.ReclaimBound.{WaitsWith, IsGone, IsHeldUp}
use Rattle.sdd_world_model.specs.UnderGuards.{CallsUnder}

-- after how many outermost openings of its holder, at latest, goes what has seen so many changes, where each close of the holder's last guard scans
-- and isn't held up: the next one is a change where another count is there to be found; else the next but one
abbrev pub openings_left : EpochState → (holder seen : ℕ) → ℕ
openings_left t q seen = (if finds_another t q then 1 else (if is_open (time.place_at t q) then 1 else 2)) + (2 - seen)

module _ {T : Type 0} (holds : T → List OwnerOrCell) where
  -- calls of any participants, one after another
  pub data Calls : World T → World T → Type 0 where
    no_call : (w : World T) → Calls w w
    one_more : (u v w : World T) → Calls u v → WorldStep holds v w → Calls u w

  -- on the way from one world to the other there was one in which it is gone
  abbrev pub HasGone : LimboEntry → World T → World T → Type 0
  HasGone what u w = (v : World T) × Calls u v × Calls v w × IsGone v what

  -- after a close of q's last guard another count is to be found: one is there already, or the close scans and isn't held up
  abbrev pub MovesOn : World T → ℕ → Type 0
  MovesOn w q = IsTrue (finds_another w.time q) ⊎ (((place_at w q).countdown ≡ 0) × ¬ (IsHeldUp w q))

  -- calls of any participants, one after another, before which q is one: so many are outermost openings of q, and after each close of q's last guard
  -- another count is to be found. A call that leaves a guard of q open, where one was, is no such close
  pub data WorksThrough (q : ℕ) : (openings : ℕ) → World T → World T → Type 0 where
    starts : (w : World T) → WorksThrough q 0 w w
    one_opening : (n : ℕ) (u v : World T) → WorksThrough q n u v → IsPlaceOf v q → ¬ (IsTrue (is_open (place_at v q))) →
        WorksThrough q (n + 1) u (opened holds v q)
    one_close : (n : ℕ) (u v : World T) → WorksThrough q n u v → IsPlaceOf v q → MovesOn v q → WorksThrough q n u (closed v q)
    one_call : (n : ℕ) (u v w : World T) → WorksThrough q n u v → IsPlaceOf v q → WorldStep holds v w →
        (IsTrue (is_open (place_at v q)) → IsTrue (is_open (place_at w q))) → WorksThrough q n u w

  -- a call that neither opens nor closes a guard, and by which nobody begins or ends
  abbrev pub IsWork : {v w : World T} → WorldStep holds v w → Type 0
  IsWork (registers w p vacant) = ⊥
  IsWork (ends w p live shut) = ⊥
  IsWork (opens w p live) = ⊥
  IsWork (closes w p live) = ⊥
  IsWork other = Unit {0}

  -- such calls of any participants, one after another, and guards, each closed again, with such calls under them
  pub data Works : World T → World T → Type 0 where
    no_work : (w : World T) → Works w w
    more_work : (u v w : World T) → Works u v → (call : WorldStep holds v w) → IsWork call → Works u w
    one_guard : (p : ℕ) (u v w : World T) → Works u v → IsPlaceOf v p → Works (opened holds v p) w → Works u (closed w p)

  -- a guard of q, opened, with work under it, then accelerated and closed
  pub record IsWorkingGuard (q : ℕ) (w new : World T) : Type 0 where
    pub worked : World T
    pub works : Works (opened holds w q) worked
    pub closes : new ≡ closed (accelerated worked q) q

  -- what it leaves where no other was open
  pub record PassesWork (q : ℕ) (w new : World T) : Type 0 where
    pub one : WorksThrough q 1 w new
    pub quiet : ¬ (AnyGuardOpen new)
    pub place : IsPlaceOf new q
    pub places : length new.time.places ≡ length w.time.places
    pub live : time.lives new.time ≡ time.lives w.time
    pub nesting : new.time.nesting ≡ w.time.nesting
    pub count : new.time.count ≤ w.time.count + 1

  -- the law: each does, whatever the work
  abbrev pub WorkingGuardsPass : World T → Type 0
  WorkingGuardsPass w = (q : ℕ) → IsPlaceOf w q → ¬ (AnyGuardOpen w) → w.time.count < last_count → (new : World T) → IsWorkingGuard q w new → PassesWork q w new

  -- the law: a guard of q counts as one, whatever is called under it and by whomever, where q accelerates it last and its close isn't held up
  abbrev pub BusyGuardsCount : World T → Type 0
  BusyGuardsCount w = (q : ℕ) → IsPlaceOf w q → ¬ (IsTrue (is_open (place_at w q))) → (new : World T) → CallsUnder holds q (opened holds w q) new →
      ¬ (IsHeldUp new q) → WorksThrough q 1 w (closed (accelerated new q) q)

  -- the law: what waits has gone on the way, where its holder makes as many outermost openings as are left, and never more than four are
  pub record WorkingGuardsReclaim (w : World T) : Type 0 where
    pub bounded : (q seen : ℕ) → openings_left w.time q seen ≤ 4
    pub gone : (q seen : ℕ) (what : LimboEntry) → WaitsWith w q what seen → (n : ℕ) (new : World T) → WorksThrough q n w new →
        openings_left w.time q seen ≤ n → HasGone what w new

  -- the law: ways follow one another, and so does work, and each of these is work
  pub record WorkLaws : Type 0 where
    pub ways : (q m n : ℕ) (u v w : World T) → WorksThrough q m u v → WorksThrough q n v w → WorksThrough q (m + n) u w
    pub following : (u v w : World T) → Works u v → Works v w → Works u w
    pub nothing : (w : World T) → Works w w
    pub making : (w : World T) (k : ℕ) (value : T) → IsEmptyAt w.standings k → Works w (made w k value)
    pub making_shared : (w : World T) (k : ℕ) (value : T) → IsEmptyAt w.standings k → Works w (made_shared w k value)
    pub retiring : (w : World T) (p k : ℕ) → IsPlaceOf w p → standing_at w k ≡ Some Owned → Works w (retired w p k)
    pub releasing : (w : World T) (p k n : ℕ) → IsPlaceOf w p → standing_at w k ≡ Some (Shared n) → Works w (owner_given w p k (Some (Shared n)))
    pub deferring : (w : World T) (p j : ℕ) → IsPlaceOf w p → IsEmptyAt w.jobs j → Works w (deferred w p j)
    pub filling : (w : World T) (c : ℕ) (cell : CellContents) → Works w (with_cell w c cell)
    -- a guard of any participant, closed again
    pub guarding : (w worked : World T) (p : ℕ) → IsPlaceOf w p → Works (opened holds w p) worked → Works w (closed worked p)

-- When an item or a job goes at latest
use Rattle.std.specs.Prelude.{ℕ, ◌+◌, ◌-◌, ◌*◌, ◌^◌, ◌<◌, ◌≤◌, ◌≡◌, ◌≢◌, ◌⊎◌, Contains, IsTrue, List, None, if◌then◌else◌}
use Rattle.sdd_participants.specs.Waiting.{having_seen}
use Rattle.sdd_participants.specs.declared.waiting.LimboEntry.{LimboEntry}
use Rattle.sdd_participants.specs.declared.waiting.LimboEntry.TheVariants.{Item, Job}
use Rattle.sdd_participants.specs.Slab.{entry_at}
use Rattle.sdd_participants.specs.EpochState.{EpochState, finds_another, is_open, last_count, scan_period}
use Rattle.sdd_participants.specs.EpochState as time
use Rattle.sdd_world_model.specs.OwnerOrCell.{OwnerOrCell}
use Rattle.sdd_world_model.specs.World.{World, AnyGuardOpen, IsPlaceOf, place_at, standing_at, value_at}
use Rattle.sdd_world_model.specs.WorldChanges.{opened, accelerated, closed}
use Rattle.sdd_world_model.specs.WorldStep.{WorldStep}

module _ {T : Type 0} where
  -- an item or a job waits with p, and has seen so many of p's changes
  abbrev pub WaitsWith : World T → (place : ℕ) → LimboEntry → (seen : ℕ) → Type 0
  WaitsWith w p what seen = Contains (place_at w p).bags.waiting (having_seen seen what)

  -- the slot's item does
  abbrev pub Waits : World T → (place slot seen : ℕ) → Type 0
  Waits w p k seen = WaitsWith w p (Item k) seen

  -- an item's slot is free, or a job's place is
  abbrev pub IsGone : World T → LimboEntry → Type 0
  IsGone w (Item k) = standing_at w k ≡ None
  IsGone w (Job j) = entry_at w.jobs j ≡ None

  -- and no value is in the slot
  abbrev pub IsCleared : World T → LimboEntry → Type 0
  IsCleared w (Item k) = (standing_at w k ≡ None) × (value_at w k ≡ None)
  IsCleared w (Job j) = entry_at w.jobs j ≡ None

-- after how many outermost openings of its holder, at latest, what waits is reclaimed, or runs, that has seen so many changes:
-- the next one is a change where another count is there to be found; else the holder first counts down to a scan
abbrev pub left : EpochState → (holder seen : ℕ) → ℕ
left t q seen =
    if finds_another t q then 1 + scan_period * (2 - seen)
    else (time.place_at t q).countdown + (if is_open (time.place_at t q) then 1 else 2) + scan_period * (2 - seen)

-- a scan of q can't raise the count: it is the last one, or another participant has a guard open
abbrev pub IsHeldUp : {T : Type 0} → World T → ℕ → Type 0
IsHeldUp w q = (last_count ≤ w.time.count) ⊎ ((p : ℕ) × (p ≢ q) × IsTrue (is_open (place_at w p)))

-- p opens a guard, accelerates it and closes it
abbrev pub accelerated_guard : {T : Type 0} → (T → List OwnerOrCell) → World T → ℕ → World T
accelerated_guard holds w p = closed (accelerated (opened holds w p) p) p

-- the same four times, one guard after another
abbrev pub four_guards : {T : Type 0} → (T → List OwnerOrCell) → World T → ℕ → World T
four_guards holds w p =
    accelerated_guard holds (accelerated_guard holds (accelerated_guard holds (accelerated_guard holds w p) p) p) p

module _ {T : Type 0} (holds : T → List OwnerOrCell) (w : World T) where
  -- an outermost opening of the holder reclaims an item, or runs a job, for which one opening is left, and else leaves fewer
  abbrev pub OpeningsLower : Type 0
  OpeningsLower = (q : ℕ) (what : LimboEntry) (seen : ℕ) → WaitsWith w q what seen → ¬ (IsTrue (is_open (place_at w q))) →
      ((left w.time q seen ≡ 1) × IsGone (opened holds w q) what)
      ⊎ ((later : ℕ) × WaitsWith (opened holds w q) q what later × (left (opened holds w q).time q later + 1 ≤ left w.time q seen))

  -- before the holder ends no call leaves more, but a close of the holder that is held up
  abbrev pub NoCallRaises : Type 0
  NoCallRaises = (new : World T) → WorldStep holds w new → (q : ℕ) (what : LimboEntry) (seen : ℕ) → IsPlaceOf w q → WaitsWith w q what seen →
      IsGone new what
      ⊎ ((later : ℕ) × WaitsWith new q what later × ((left new.time q later ≤ left w.time q seen) ⊎ ((new ≡ closed w q) × IsHeldUp w q)))

  -- when an item or a job goes at latest
  pub record GoesAtLatest : Type 0 where
    pub bounded : (q : ℕ) (what : LimboEntry) (seen : ℕ) → WaitsWith w q what seen → left w.time q seen ≤ 385
    pub lowered : OpeningsLower
    pub never_raised : NoCallRaises

  -- four accelerated guards of p, one after another, reclaim all that waits with it, where no other guard is open
  abbrev pub FourGuardsReclaim : Type 0
  FourGuardsReclaim = (p : ℕ) (what : LimboEntry) (seen : ℕ) → IsPlaceOf w p → ¬ (AnyGuardOpen w) → w.time.count + 4 ≤ 2 ^ 64 → WaitsWith w p what seen →
      IsCleared (four_guards holds w p) what

module _ {T : Type 0} (holds : T → List OwnerOrCell) (q : ℕ) (what : LimboEntry) where
  -- calls, one after another, before which q is a participant, in which the slot or the job's place is never free and no close of q is held up;
  -- so many of them are outermost openings of q
  pub data WaitsThrough : (openings : ℕ) → World T → World T → Type 0 where
    starts : (w : World T) → WaitsThrough 0 w w
    one_opening : (n : ℕ) (v w : World T) → WaitsThrough n v w → IsPlaceOf w q → ¬ (IsTrue (is_open (place_at w q))) → ¬ (IsGone (opened holds w q) what) →
        WaitsThrough (n + 1) v (opened holds w q)
    one_call : (n : ℕ) (u v w : World T) → WaitsThrough n u v → IsPlaceOf v q → WorldStep holds v w → ¬ ((w ≡ closed v q) × IsHeldUp v q) → ¬ (IsGone w what) →
        WaitsThrough n u w

-- the law: as long as an item or a job waits and its holder has not ended, the holder has made fewer outermost openings than were left,
-- where no close of the holder is held up
abbrev pub GoesInTime : {T : Type 0} → (T → List OwnerOrCell) → World T → Type 0
GoesInTime {T} holds w =
    (q : ℕ) (what : LimboEntry) (seen : ℕ) → WaitsWith w q what seen → (n : ℕ) (new : World T) → WaitsThrough holds q what n w new → n < left w.time q seen

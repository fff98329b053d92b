-- What a scan takes over from participants that have ended
use Rattle.std.specs.Prelude.{ℕ, ◌≡◌, IsTrue, None}
use Rattle.sdd_participants.specs.declared.waiting.LimboEntry.{LimboEntry}
use Rattle.sdd_participants.specs.PlaceStates.{is_ended}
use Rattle.sdd_participants.specs.EpochState.{phase_at}
use Rattle.sdd_world_model.specs.World.{World, IsPlaceOf, place_at}
use Rattle.sdd_world_model.specs.WorldChanges.{closed}
use Rattle.sdd_world_model.specs.ReclaimBound.{WaitsWith}

module _ {T : Type 0} where
  -- the last guard of p is open, the next close of it scans, and p has found the count
  pub record IsToScan (w : World T) (p : ℕ) : Type 0 where
    pub place : IsPlaceOf w p
    pub last : (place_at w p).guards ≡ 1
    pub countdown : (place_at w p).countdown ≡ 0
    pub found : (place_at w p).found ≡ w.time.count

  -- the law: by such a close all that waits at an ended place, items and jobs, waits with p, with no change seen, and that place is free
  abbrev pub AdoptsWhatIsLeft : World T → Type 0
  AdoptsWhatIsLeft w = (p q : ℕ) → IsToScan w p → IsTrue (is_ended (phase_at w.time q)) →
      (phase_at (closed w p).time q ≡ None) × ((what : LimboEntry) (seen : ℕ) → WaitsWith w q what seen → WaitsWith (closed w p) p what 0)

-- What becomes of what waits for a collector
use Rattle.std.specs.Prelude.{ℕ, ◌-◌, ◌≡◌, ◌≢◌, Bool, List, Option, None, Some, nat_lt, if◌then◌else◌}
use Rattle.sdd_participants.specs.Collecting.{is_kept_for, chosen_among, time_without}
use Rattle.sdd_participants.specs.declared.waiting.LimboEntry.{LimboEntry}
use Rattle.sdd_participants.specs.declared.standing.Standing.{Standing}
use Rattle.sdd_participants.specs.declared.standing.Standing.TheVariants.{Owned, Raw, Shared, Retired, Private as privately}
use Rattle.sdd_world_model.specs.OwnerOrCell.{OwnerOrCell}
use Rattle.sdd_world_model.specs.Slots.{IsWaiting}
use Rattle.sdd_world_model.specs.World.{World, HasPlace, standing_at, value_at}
use Rattle.sdd_world_model.specs.WorldChanges.{all_reclaimed, waiting_as, with_standing, without_cell}

module _ {T : Type 0} where
  -- the item in the slot waits for the collector, with p
  abbrev pub collected : World T → (p c k : ℕ) → World T
  collected w p c k = waiting_as w p k (privately c)

  -- p gives the collector an owner of the slot's item, which stands so: the last owner's item waits for it
  abbrev pub owner_collected : World T → (p c k : ℕ) → Option Standing → World T
  owner_collected w p c k None = w
  owner_collected w p c k (Some Owned) = collected w p c k
  owner_collected w p c k (Some Raw) = w
  owner_collected w p c k (Some (Shared n)) = if nat_lt 1 n then with_standing w k (Shared (n - 1)) else collected w p c k
  owner_collected w p c k (Some Retired) = w
  owner_collected w p c k (Some (privately d)) = w

  -- it waits for the collector
  abbrev pub is_for : World T → ℕ → LimboEntry → Bool
  is_for w c = is_kept_for c w.standings

  -- what waits for the collector, with whomever, one place after another
  abbrev pub waiting_for : World T → ℕ → List LimboEntry
  waiting_for w c = chosen_among (is_for w c) w.time.places

  -- nothing waits for it, and its cell is free
  abbrev pub without_collector : World T → ℕ → World T
  without_collector w c = without_cell (record w { time = time_without (is_for w c) w.time }) c

  -- the collector's cell is free, and p reclaims what waited for it
  abbrev pub collector_closed : (T → List OwnerOrCell) → World T → (p c : ℕ) → World T
  collector_closed holds w p c = all_reclaimed holds (without_collector w c) p (waiting_for w c)

-- by the close of a collector each slot whose item waits for it is free; each other item that waits stands as it stood, and each other slot has its value
pub record EndsWith {T : Type 0} (holds : T → List OwnerOrCell) (w : World T) (p c : ℕ) : Type 0 where
  pub gone : (k : ℕ) → standing_at w k ≡ Some (privately c) →
      (standing_at (collector_closed holds w p c) k ≡ None) × (value_at (collector_closed holds w p c) k ≡ None)
  pub waits : (k : ℕ) → IsWaiting (standing_at w k) → standing_at w k ≢ Some (privately c) → standing_at (collector_closed holds w p c) k ≡ standing_at w k
  pub keeps : (k : ℕ) → standing_at w k ≢ Some (privately c) → value_at (collector_closed holds w p c) k ≡ value_at w k

-- the law: so it is, whoever closes it
abbrev pub CollectedEnds : {T : Type 0} → (T → List OwnerOrCell) → World T → Type 0
CollectedEnds holds w = (p c : ℕ) → HasPlace w p → EndsWith holds w p c

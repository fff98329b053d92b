-- What an accelerated guard leaves, where no other is open
use Rattle.std.specs.Prelude.{ℕ, ◌+◌, ◌^◌, ◌<◌, ◌≡◌, ◌≤◌, List, length}
use Rattle.sdd_world_model.specs.OwnerOrCell.{OwnerOrCell}
use Rattle.sdd_world_model.specs.World.{World, AnyGuardOpen, IsPlaceOf}
use Rattle.sdd_world_model.specs.WorldChanges.{made, retired}
use Rattle.sdd_world_model.specs.WorldInvariant.{taken}
use Rattle.sdd_participants.specs.Slab.{IsEmptyAt}
use Rattle.sdd_participants.specs.EpochState.{lives}
use Rattle.sdd_world_model.specs.Out.{out, HoldsNothing}
use Rattle.sdd_world_model.specs.ReclaimBound.{accelerated_guard}

-- no guard is open afterwards, as many items were made and dropped in place, and no more is out
pub record Passes {T : Type 0} (holds : T → List OwnerOrCell) (w : World T) (p : ℕ) : Type 0 where
  pub quiet : ¬ (AnyGuardOpen (accelerated_guard holds w p))
  pub place : IsPlaceOf (accelerated_guard holds w p) p
  pub live : lives (accelerated_guard holds w p).time ≡ lives w.time
  pub nesting : (accelerated_guard holds w p).time.nesting ≡ w.time.nesting
  pub as_many_made : (accelerated_guard holds w p).tally.made ≡ w.tally.made
  pub as_many_in_place : (accelerated_guard holds w p).tally.in_place ≡ w.tally.in_place
  pub no_more_out : out (accelerated_guard holds w p) ≤ out w
  pub as_much_out : HoldsNothing holds → out (accelerated_guard holds w p) ≡ out w

-- so many items were made and retired at once, and wait now; no guard was opened, and as much is out
pub record HavePassed {T : Type 0} (items : ℕ) (old new : World T) : Type 0 where
  pub quiet : ¬ (AnyGuardOpen old) → ¬ (AnyGuardOpen new)
  pub as_much_out : out new ≡ out old
  pub taken : taken new ≡ taken old + items
  pub slots : length new.standings ≡ length old.standings
  pub places : length new.time.places ≡ length old.time.places
  pub live : lives new.time ≡ lives old.time
  pub nesting : new.time.nesting ≡ old.time.nesting
  pub count : new.time.count ≡ old.time.count
  pub made : new.tally.made ≡ old.tally.made + items
  pub in_place : new.tally.in_place ≡ old.tally.in_place

-- the law: an item that is made and retired at once passes, while the tally has room, and items pass one after another
pub record ItemsPass (T : Type 0) : Type 0 where
  pub one : (w : World T) (p k : ℕ) (value : T) → IsPlaceOf w p → IsEmptyAt w.standings k → w.tally.made + 1 < 2 ^ 128 →
      HavePassed 1 w (retired (made w k value) p k)
  pub more : (u v w : World T) (m n : ℕ) → HavePassed m u v → HavePassed n v w → HavePassed (m + n) u w

-- the law: each accelerated guard of a participant does, where no guard is open
abbrev pub GuardsPass : {T : Type 0} → (T → List OwnerOrCell) → World T → Type 0
GuardsPass holds w = (p : ℕ) → IsPlaceOf w p → ¬ (AnyGuardOpen w) → Passes holds w p

-- What a call makes of a world
use Rattle.std.specs.Prelude.{ℕ, ◌+◌, ◌≡◌, ◌⊎◌, IsTrue, List, length, Some}
use Rattle.sdd_participants.specs.EpochState.{IsVacant, is_open}
use Rattle.sdd_participants.specs.Slab.{Entries, IsEmptyAt}
use Rattle.sdd_participants.specs.declared.standing.Standing.{Standing}
use Rattle.sdd_participants.specs.declared.standing.Standing.TheVariants.{Owned, Raw, Shared}
use Rattle.sdd_participants.specs.declared.standing.CellContents.{CellContents}
use Rattle.sdd_participants.specs.declared.standing.RawCellContents.{RawCellContents}
use Rattle.sdd_world_model.specs.OwnerOrCell.{OwnerOrCell}
use Rattle.sdd_world_model.specs.World.{World, place_at, standing_at, AnyGuardOpen, IsPlaceOf}
use Rattle.sdd_world_model.specs.InPlace.{IsAlone, MayInPlace}
use Rattle.sdd_world_model.specs.Collecting.{collected, collector_closed}
use Rattle.sdd_world_model.specs.WorldChanges.{made_as, with_standing, with_value, dropped, retired, deferred, owner_given, cell_closed, opened, closed, stirred, accelerated, registered, ended}

-- a new item stands so: out with its one owner, who may share it or not
abbrev pub IsFirst : Standing → Type 0
IsFirst s = (s ≡ Owned) ⊎ (s ≡ Shared 1)

module _ {T : Type 0} (holds : T → List OwnerOrCell) where
  pub data WorldStep : World T → World T → Type 0 where
    registers : (w : World T) (p : ℕ) → IsVacant w.time p → WorldStep w (registered w p)
    ends : (w : World T) (p : ℕ) → IsPlaceOf w p → ¬ (IsTrue (is_open (place_at w p))) → WorldStep w (ended w p)
    opens : (w : World T) (p : ℕ) → IsPlaceOf w p → WorldStep w (opened holds w p)
    closes : (w : World T) (p : ℕ) → IsPlaceOf w p → WorldStep w (closed w p)
    stirs : (w : World T) (p : ℕ) → IsPlaceOf w p → WorldStep w (stirred w p)
    accelerates : (w : World T) (p : ℕ) → IsPlaceOf w p → WorldStep w (accelerated w p)
    makes : (w : World T) (k : ℕ) (value : T) (s : Standing) → IsFirst s → IsEmptyAt w.standings k → WorldStep w (made_as w k value s)
    shares : (w : World T) (k n : ℕ) → standing_at w k ≡ Some (Shared n) → WorldStep w (with_standing w k (Shared (n + 1)))
    retires : (w : World T) (p k : ℕ) → IsPlaceOf w p → standing_at w k ≡ Some Owned → WorldStep w (retired w p k)
    releases : (w : World T) (p k n : ℕ) → IsPlaceOf w p → standing_at w k ≡ Some (Shared n) → WorldStep w (owner_given w p k (Some (Shared n)))
    defers : (w : World T) (p j : ℕ) → IsPlaceOf w p → IsEmptyAt w.jobs j → WorldStep w (deferred w p j)
    -- the one owner's item waits for a collector from now on
    collects : (w : World T) (p c k : ℕ) → IsPlaceOf w p → IsAlone (standing_at w k) → WorldStep w (collected w p c k)
    closes_collector : (w : World T) (p c : ℕ) → IsPlaceOf w p → ¬ (AnyGuardOpen w) → WorldStep w (collector_closed holds w p c)
    edits : (w : World T) (k : ℕ) (value : T) → MayInPlace w k → WorldStep w (with_value w k value)
    drops : (w : World T) (p k : ℕ) → IsPlaceOf w p → MayInPlace w k → WorldStep w (dropped holds w p k)
    puts_out_raw : (w : World T) (k : ℕ) → standing_at w k ≡ Some Owned → WorldStep w (with_standing w k Raw)
    takes_back_raw : (w : World T) (k : ℕ) → standing_at w k ≡ Some Raw → WorldStep w (with_standing w k Owned)
    -- what cells hold changes, and nothing else
    changes_cells : (w : World T) (cells : Entries CellContents) → length cells ≡ length w.cells → WorldStep w (record w { cells = cells })
    closes_cell : (w : World T) (p c : ℕ) → IsPlaceOf w p → WorldStep w (cell_closed w p c)
    -- what raw cells point to changes, and nothing else
    changes_pointers : (w : World T) (pointers : List RawCellContents) → length pointers ≡ length w.pointers → WorldStep w (record w { pointers = pointers })

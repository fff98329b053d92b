-- What cells that are filled and emptied leave
use Rattle.std.proofs.Common.{◌≡◌, ◌≢◌, ◌+◌, ℕ, List, [], ◌∷◌, Bool, true, false, refl, sym, ap, ◌∙◌, subst, Some, None, Option, arith}
use Rattle.std.specs.Prelude.{is_some}
use Rattle.std.proofs.lemmas.List.{get_or-set_same, get_or-set_other, set-set}
use Rattle.sdd_participants.specs.declared.waiting.LimboEntry.{LimboEntry}
use Rattle.sdd_participants.specs.declared.waiting.LimboEntry.TheVariants.{Item, Job}
use Rattle.sdd_core.specs.declared.tag.Tag.TheVariants.{None as no_tag}
use Rattle.sdd_participants.specs.Slab.{Entries, IsEmptyAt, entry_at, with_entry, without_entry}
use Rattle.sdd_participants.specs.EpochState.{is_open, finds_another, due_next}
use Rattle.sdd_participants.specs.declared.standing.CellContents.{CellContents}
use Rattle.sdd_participants.specs.declared.standing.Standing.{Standing}
use Rattle.sdd_participants.specs.declared.standing.Standing.TheVariants.{Owned, Raw, Shared, Retired, Private as privately}
use Rattle.sdd_world_slots.proofs.SlotsKept.{inside-some}
use Rattle.sdd_world_model.specs.OwnerOrCell.{OwnerOrCell}
use Rattle.sdd_world_model.specs.World.{World, place_at, standing_at, value_at}
use Rattle.sdd_world_model.specs.WorldChanges.{made, nulled, with_cell, opened, changed, taken_out, waiting_value, reclaimed, all_reclaimed}
use Rattle.sdd_world_model.specs.WorldChanges as steps
use Rattle.sdd_world_model.specs.Out.{HoldsNothing, out}
use Rattle.sdd_world_model.proofs.Out.{out-laws}
use Rattle.sdd_bench.specs.Leaves.{IsFilled}
use Rattle.sdd_bench.proofs.Leaving.{nothing}

-- a cell that holds something, and then something else
pub set-there : (cells : Entries CellContents) (c : ℕ) (x y : CellContents) → entry_at cells c ≡ Some x → entry_at (with_entry cells c y) c ≡ Some y
set-there cells c x y is = get_or-set_same cells c (Some y) None (inside-some cells c (ap is_some is))

module _ {T : Type 0} (holds : T → List OwnerOrCell) (plain : HoldsNothing holds) (p : ℕ) where
  -- what is reclaimed changes no cell, where values hold nothing
  taken-cells : (w : World T) (k : ℕ) (v : Option T) → (taken_out holds w p k v).cells ≡ w.cells
  taken-cells w k None = refl
  taken-cells w k (Some v) = rw (plain v) refl

  slot-cells : (w : World T) (k : ℕ) (s : Option Standing) → (taken_out holds w p k (waiting_value w k s)).cells ≡ w.cells
  slot-cells w k None = refl
  slot-cells w k (Some Owned) = refl
  slot-cells w k (Some Raw) = refl
  slot-cells w k (Some (Shared m)) = refl
  slot-cells w k (Some Retired) = taken-cells w k (value_at w k)
  slot-cells w k (Some (privately c)) = taken-cells w k (value_at w k)

  reclaimed-cells : (w : World T) (x : LimboEntry) → (reclaimed holds w p x).cells ≡ w.cells
  reclaimed-cells w (Item k) = slot-cells w k (standing_at w k)
  reclaimed-cells w (Job j) = refl

  all-cells : (xs : List LimboEntry) (w : World T) → (all_reclaimed holds w p xs).cells ≡ w.cells
  all-cells [] w = refl
  all-cells (x ∷ xs) w = all-cells xs (reclaimed holds w p x) ∙ reclaimed-cells w x

  -- no opening does either
  opened-cells-if : (w : World T) (a b : Bool) → is_open (place_at w p) ≡ a → finds_another (steps.nested w p).time p ≡ b → (opened holds w p).cells ≡ w.cells
  opened-cells-if w true b e f = rw e refl
  opened-cells-if w false false e f = rw (e, f) refl
  opened-cells-if w false true e f =
      rw (e, f) (all-cells (due_next (place_at (steps.nested w p) p)) (steps.rotated (steps.nested w p) p))

  pub opened-cells : (w : World T) → (opened holds w p).cells ≡ w.cells
  opened-cells w = opened-cells-if w (is_open (place_at w p)) (finds_another (steps.nested w p).time p) refl refl

-- a cell that holds an owner holds it still where no cell changes, and where a guard is opened
pub filled-on : (w v : World ℕ) (c : ℕ) → v ≡ w → IsFilled w c → IsFilled v c
filled-on w v c e f = subst (λ (u : World ℕ). IsFilled u c) (sym e) f

pub opened-filled : (w v : World ℕ) (p c : ℕ) → v ≡ opened nothing w p → IsFilled w c → IsFilled v c
opened-filled w v p c e (slot, tag, is) = (
  slot,
  tag,
  ap (λ (u : World ℕ). entry_at u.cells c) e ∙ ap (λ (cells : Entries CellContents). entry_at cells c) (opened-cells nothing (λ n. refl) p w)
      ∙ is,
)

-- a cell that holds something isn't one that is empty
pub apart : (cells : Entries CellContents) (c d : ℕ) (x : CellContents) → entry_at cells c ≡ Some x → IsEmptyAt cells d → d ≢ c
apart cells c d x full empty = λ e. let never : Some x ≡ None = sym full ∙ ap (λ (n : ℕ). entry_at cells n) (sym e) ∙ empty.1 in absurd (cc)

-- a cell that holds an owner holds it still where another one is filled with a new item, and where another one is freed
pub filled-beside : (w v : World ℕ) (c d k value : ℕ) (cell : CellContents) → v ≡ with_cell (made w k value) d cell → IsEmptyAt w.cells d → IsFilled w c
    → IsFilled v c
filled-beside w v c d k value cell e empty (slot, tag, is) =
    let other = apart w.cells c d _ is empty in
    (slot, tag, ap (λ (u : World ℕ). entry_at u.cells c) e ∙ get_or-set_other w.cells d c (Some cell) None (λ e. other (sym e)) ∙ is)

pub filled-without : (w v : World ℕ) (c d : ℕ) → v.cells ≡ without_entry w.cells d → c ≢ d → IsFilled w c → IsFilled v c
filled-without w v c d e other (slot, tag, is) =
    (slot, tag, ap (λ (cells : Entries CellContents). entry_at cells c) e ∙ get_or-set_other w.cells d c None None other ∙ is)

-- a new item and the cell that holds it are out
pub filled-out : (w : World ℕ) (k c value : ℕ) (cell : CellContents) → IsEmptyAt w.standings k → IsEmptyAt w.cells c →
    out (with_cell (made w k value) c cell) ≡ out w + 2
filled-out w k c value cell slot empty =
    let u : World ℕ = made w k value in
    let null : CellContents = record { held = None; tag = no_tag } in
    let m = (out-laws nothing w).making k value slot in
    let n = (out-laws nothing u).nulling c empty in
    let f = (out-laws nothing (nulled u c)).filling c cell (ap is_some (get_or-set_same w.cells c (Some null) None empty.0)) in
    let twice : with_cell (nulled u c) c cell ≡ with_cell u c cell =
    ap (λ (cells : Entries CellContents). record u { cells = cells }) (set-set w.cells c (Some null) (Some cell)) in
    omega (arith, m, n, f, ap (λ (v : World ℕ). out v) twice)

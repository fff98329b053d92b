-- A cell that holds nothing may be freed before what waits is reclaimed, or after it
use Rattle.std.proofs.Common.{◌≡◌, ℕ, List, [], ◌∷◌, Some, None, Bool, true, false, length, set, sym, refl, ap, ◌∙◌, arith, get_or-set_other, get_or-set_same, length-set}
use Rattle.std.specs.Prelude.{Option, ◌-◌, nat_lt, if◌then◌else◌}
use Rattle.std.proofs.lemmas.List.{set_comm, get_or_past}
use mathlib.Core.Logic.{dite}
use native.Mathlib.Decide.{ℕ_discrete, dec_lt}
use Rattle.sdd_participants.specs.Slab.{Entries, entry_at}
use Rattle.sdd_participants.specs.declared.waiting.LimboEntry.{LimboEntry}
use Rattle.sdd_participants.specs.declared.waiting.LimboEntry.TheVariants.{Item, Job}
use Rattle.sdd_participants.specs.declared.standing.CellContents.{CellContents}
use Rattle.sdd_participants.specs.declared.standing.Standing.{Standing}
use Rattle.sdd_participants.specs.declared.standing.Standing.TheVariants.{Owned, Raw, Shared, Retired, Private as privately}
use Rattle.sdd_world_model.specs.OwnerOrCell.{OwnerOrCell, owned, shared, atomic_owned, atomic_shared, atomic_raw}
use Rattle.sdd_world_model.specs.World.{World, standing_at}
use Rattle.sdd_world_model.specs.WorldChanges.{held_in, with_standing, retired, without_cell, owner_given, spilled, cell_closed, given, given_all, waiting_value, freed, taken_out, reclaimed, all_reclaimed}

module _ {T : Type 0} (c : ℕ) where
  -- the cell is free, or holds nothing
  abbrev pub HoldsNone : World T → Type 0
  HoldsNone w = held_in (entry_at w.cells c) ≡ None

  freed_holds : (w : World T) → HoldsNone (without_cell w c)
  freed_holds w = let gone : Option CellContents = None in dite (dec_lt c (length w.cells))
      (λ low. ap held_in (get_or-set_same w.cells c gone gone low))
      (λ far. ap held_in (get_or_past (set w.cells c gone) c gone (omega (arith, length-set w.cells c gone))))

  -- an owner that is given touches no cell
  shared_apart : (w : World T) (p k n : ℕ) (b : Bool) → without_cell (if b then with_standing w k (Shared (n - 1)) else retired w p k) c
      ≡ (if b then with_standing (without_cell w c) k (Shared (n - 1)) else retired (without_cell w c) p k)
  shared_apart w p k n true = refl
  shared_apart w p k n false = refl

  owner_apart : (w : World T) (p k : ℕ) (s : Option Standing) → without_cell (owner_given w p k s) c ≡ owner_given (without_cell w c) p k s
  owner_apart w p k None = refl
  owner_apart w p k (Some Owned) = refl
  owner_apart w p k (Some Raw) = refl
  owner_apart w p k (Some (Shared n)) = shared_apart w p k n (nat_lt 1 n)
  owner_apart w p k (Some Retired) = refl
  owner_apart w p k (Some (privately d)) = refl

  spilled_apart : (w : World T) (p : ℕ) (held : Option ℕ) → without_cell (spilled w p held) c ≡ spilled (without_cell w c) p held
  spilled_apart w p None = refl
  spilled_apart w p (Some k) = owner_apart w p k (standing_at w k)

  shared_cells : (w : World T) (p k n : ℕ) (b : Bool) → (if b then with_standing w k (Shared (n - 1)) else retired w p k).cells ≡ w.cells
  shared_cells w p k n true = refl
  shared_cells w p k n false = refl

  owner_cells : (w : World T) (p k : ℕ) (s : Option Standing) → (owner_given w p k s).cells ≡ w.cells
  owner_cells w p k None = refl
  owner_cells w p k (Some Owned) = refl
  owner_cells w p k (Some Raw) = refl
  owner_cells w p k (Some (Shared n)) = shared_cells w p k n (nat_lt 1 n)
  owner_cells w p k (Some Retired) = refl
  owner_cells w p k (Some (privately d)) = refl

  spilled_cells : (w : World T) (p : ℕ) (held : Option ℕ) → (spilled w p held).cells ≡ w.cells
  spilled_cells w p None = refl
  spilled_cells w p (Some k) = owner_cells w p k (standing_at w k)

  -- nor does another cell that is closed touch this one
  cell_apart : (w : World T) → HoldsNone w → (p d : ℕ) → (without_cell (cell_closed w p d) c ≡ cell_closed (without_cell w c) p d)
      × HoldsNone (cell_closed w p d)
  cell_apart w none p d = let after : World T = without_cell w d in let held : Option ℕ = held_in (entry_at w.cells d) in dite (ℕ_discrete d c)
      (λ e. let empty : held ≡ None = ap (λ (j : ℕ). held_in (entry_at w.cells j)) e ∙ none in
      let then_empty : held_in (entry_at (without_cell w c).cells d) ≡ None
      = ap (λ (j : ℕ). held_in (entry_at (without_cell w c).cells j)) e ∙ freed_holds w in (
        ap (λ (h : Option ℕ). without_cell (spilled after p h) c) empty
            ∙ (ap (λ (j : ℕ). without_cell (without_cell w j) c) e
            ∙ (sym (ap (λ (j : ℕ). without_cell (without_cell w c) j) e)
            ∙ sym (ap (λ (h : Option ℕ). spilled (without_cell (without_cell w c) d) p h) then_empty))),
        ap (λ (cs : Entries CellContents). held_in (entry_at cs c)) (spilled_cells after p held)
            ∙ (ap (λ (j : ℕ). held_in (entry_at (without_cell w j).cells c)) e ∙ freed_holds w),
      ))
      (λ ne. (
        spilled_apart after p held
            ∙ (ap (λ (cs : Entries CellContents). spilled (record w { cells = cs }) p held) (set_comm w.cells d c None None ne)
            ∙ ap (λ (e : Option CellContents). spilled (without_cell (without_cell w c) d) p (held_in e))
            (sym (get_or-set_other w.cells c d None None ne))),
        ap (λ (cs : Entries CellContents). held_in (entry_at cs c)) (spilled_cells after p held)
            ∙ (ap held_in (get_or-set_other w.cells d c None None (λ e. ne (sym e))) ∙ none),
      ))

  owner_too : (w : World T) → HoldsNone w → (p k : ℕ) (s : Option Standing)
      → (without_cell (owner_given w p k s) c ≡ owner_given (without_cell w c) p k s) × HoldsNone (owner_given w p k s)
  owner_too w none p k s = (owner_apart w p k s, ap (λ (cs : Entries CellContents). held_in (entry_at cs c)) (owner_cells w p k s) ∙ none)

  given_apart : (w : World T) → HoldsNone w → (p : ℕ) (h : OwnerOrCell)
      → (without_cell (given w p h) c ≡ given (without_cell w c) p h) × HoldsNone (given w p h)
  given_apart w none p (owned k home) = owner_too w none p k (standing_at w k)
  given_apart w none p (shared k home) = owner_too w none p k (standing_at w k)
  given_apart w none p (atomic_owned d home) = cell_apart w none p d
  given_apart w none p (atomic_shared d home) = cell_apart w none p d
  given_apart w none p (atomic_raw d home) = cell_apart w none p d

  all_given_apart : (w : World T) → HoldsNone w → (p : ℕ) (hs : List OwnerOrCell)
      → (without_cell (given_all w p hs) c ≡ given_all (without_cell w c) p hs) × HoldsNone (given_all w p hs)
  all_given_apart w none p [] = (refl, none)
  all_given_apart w none p (h ∷ hs) = let one = given_apart w none p h in let more = all_given_apart (given w p h) one.1 p hs in
      (more.0 ∙ ap (λ (u : World T). given_all u p hs) one.0, more.1)

  module _ (holds : T → List OwnerOrCell) (p : ℕ) where
    taken_apart : (w : World T) → HoldsNone w → (k : ℕ) (v : Option T)
        → (without_cell (taken_out holds w p k v) c ≡ taken_out holds (without_cell w c) p k v) × HoldsNone (taken_out holds w p k v)
    taken_apart w none k None = (refl, none)
    taken_apart w none k (Some value) = all_given_apart (freed w k) none p (holds value)

    one_apart : (w : World T) → HoldsNone w → (x : LimboEntry)
        → (without_cell (reclaimed holds w p x) c ≡ reclaimed holds (without_cell w c) p x) × HoldsNone (reclaimed holds w p x)
    one_apart w none (Item k) = taken_apart w none k (waiting_value w k (standing_at w k))
    one_apart w none (Job j) = (refl, none)

    -- all that waits may be reclaimed before the cell is freed, or after it
    pub freed_apart : (w : World T) → HoldsNone w → (xs : List LimboEntry)
        → without_cell (all_reclaimed holds w p xs) c ≡ all_reclaimed holds (without_cell w c) p xs
    freed_apart w none [] = refl
    freed_apart w none (x ∷ xs) = let one = one_apart w none x in
        freed_apart (reclaimed holds w p x) one.1 xs ∙ ap (λ (u : World T). all_reclaimed holds u p xs) one.0

  -- ---- a cell that is there still is as it was
  there_cell : (w : World T) (p d : ℕ) (x : CellContents) → entry_at (cell_closed w p d).cells c ≡ Some x → entry_at w.cells c ≡ Some x
  there_cell w p d x there = let gone : Option CellContents = None in let at = ap (λ (cs : Entries CellContents). entry_at cs c)
      (spilled_cells (without_cell w d) p (held_in (entry_at w.cells d))) in dite (ℕ_discrete d c)
      (λ e. absurd (let none : entry_at (without_cell w d).cells c ≡ None = ap (λ (j : ℕ). entry_at (set w.cells j gone) c) e ∙ dite (dec_lt c (length w.cells))
      (λ low. get_or-set_same w.cells c gone gone low) (λ far. get_or_past (set w.cells c gone) c gone (omega (arith, length-set w.cells c gone))) in
      let no : None ≡ Some x = sym none ∙ (sym at ∙ there) in cc))
      (λ ne. sym (get_or-set_other w.cells d c gone gone (λ e. ne (sym e))) ∙ (sym at ∙ there))

  there_given : (w : World T) (p : ℕ) (h : OwnerOrCell) (x : CellContents) → entry_at (given w p h).cells c ≡ Some x → entry_at w.cells c ≡ Some x
  there_given w p (owned k home) x there = sym (ap (λ (cs : Entries CellContents). entry_at cs c) (owner_cells w p k (standing_at w k))) ∙ there
  there_given w p (shared k home) x there = sym (ap (λ (cs : Entries CellContents). entry_at cs c) (owner_cells w p k (standing_at w k))) ∙ there
  there_given w p (atomic_owned d home) x there = there_cell w p d x there
  there_given w p (atomic_shared d home) x there = there_cell w p d x there
  there_given w p (atomic_raw d home) x there = there_cell w p d x there

  there_all : (w : World T) (p : ℕ) (hs : List OwnerOrCell) (x : CellContents) → entry_at (given_all w p hs).cells c ≡ Some x → entry_at w.cells c ≡ Some x
  there_all w p [] x there = there
  there_all w p (h ∷ hs) x there = there_given w p h x (there_all (given w p h) p hs x there)

  module _ (holds : T → List OwnerOrCell) (p : ℕ) where
    there_taken : (w : World T) (k : ℕ) (v : Option T) (x : CellContents) → entry_at (taken_out holds w p k v).cells c ≡ Some x → entry_at w.cells c ≡ Some x
    there_taken w k None x there = there
    there_taken w k (Some value) x there = there_all (freed w k) p (holds value) x there

    there_one : (w : World T) (e : LimboEntry) (x : CellContents) → entry_at (reclaimed holds w p e).cells c ≡ Some x → entry_at w.cells c ≡ Some x
    there_one w (Item k) x there = there_taken w k (waiting_value w k (standing_at w k)) x there
    there_one w (Job j) x there = there

    pub was_there : (w : World T) (es : List LimboEntry) (x : CellContents) → entry_at (all_reclaimed holds w p es).cells c ≡ Some x
        → entry_at w.cells c ≡ Some x
    was_there w [] x there = there
    was_there w (e ∷ es) x there = there_one w e x (was_there (reclaimed holds w p e) es x there)

-- The cells' part of the rule: who has the right to a cell, and what a cell of a kind holds
use Rattle.std.specs.Prelude.{◌≡◌, ℕ, ◌+◌, ◌<◌, ◌≤◌, List, slice_index}
use mathlib.Core.Option.{some}
use lib.ListN.{get_elem?}
use Rattle.sdd_rights.specs.declared.views.CellKind.{CellKind}
use Rattle.sdd_rights.specs.declared.views.CellKind.TheVariants.{Owned, Shared, Raw, Collector}
use Rattle.sdd_rights.specs.declared.views.CellRight.{CellRight}
use Rattle.sdd_rights.specs.declared.views.View.{View}
use Rattle.sdd_rights.specs.declared.views.Sizes.{Sizes}
use Rattle.sdd_domain_invariant.specs.Words.{cell_word}
use Rattle.sdd_domain_invariant.specs.Codes.{counted, names, pointers_end}
use Rattle.sdd_domain_invariant.specs.Collectors.{one_in}
use Rattle.sdd_domain_invariant.specs.Slots.{slot_at}
use Rattle.sdd_domain_invariant.specs.Sums.{total, is}

abbrev pub cell_at : Sizes → List ℕ → ℕ → ℕ
cell_at sizes ws d = slice_index ws (cell_word d)

-- the word of a cell's pointer comes behind all cells'
abbrev pub pointer_at : Sizes → List ℕ → ℕ → ℕ
pointer_at sizes ws d = cell_at sizes ws (sizes.cells + d)

-- a cell holds an owner of the slot i
abbrev pub IsInCell : Sizes → List ℕ → ℕ → Type 0
IsInCell sizes ws i = (d : ℕ) × (d < sizes.cells) × (0 < names i (cell_at sizes ws d))

-- how many rights to the cell d it has
abbrev pub is_right : ℕ → CellRight → ℕ
is_right d r = is d r.cell

abbrev pub rights_at : ℕ → View → ℕ
rights_at d v = total (is_right d) v.cells.rights

abbrev pub HasRight : View → CellRight → Type 0
HasRight v r = (m : ℕ) × (get_elem? v.cells.rights m ≡ some r)

-- a cell of this kind may have this word: the owners of the slot that it names aren't counted, or are, or it names none
abbrev pub IsWordOf : Sizes → List ℕ → CellKind → ℕ → Type 0
IsWordOf sizes ws Owned x = (i : ℕ) → 0 < names i x → counted (slot_at sizes ws i) ≡ 0
IsWordOf sizes ws Shared x = (i : ℕ) → 0 < names i x → counted (slot_at sizes ws i) ≡ 1
IsWordOf sizes ws Raw x = (i : ℕ) → names i x ≡ 0
IsWordOf sizes ws Collector x = (i : ℕ) → names i x ≡ 0

-- the right is to a cell that there is and that isn't free, and has a word of its kind
pub record IsTaken (sizes : Sizes) (ws : List ℕ) (r : CellRight) : Type 0 where
  pub inside : r.cell < sizes.cells
  pub full : 0 < cell_at sizes ws r.cell
  pub kind : IsWordOf sizes ws r.kind (cell_at sizes ws r.cell)

-- the words of pointers are such
abbrev pub HavePointers : Sizes → List ℕ → Type 0
HavePointers sizes ws = (d : ℕ) → d < sizes.cells → pointer_at sizes ws d < pointers_end

-- 1 where a right of this kind to this cell is the one to the collector k, which is being closed
abbrev pub closes_by : CellKind → ℕ → ℕ → ℕ
closes_by Owned k cell = 0
closes_by Shared k cell = 0
closes_by Raw k cell = 0
closes_by Collector k cell = is k cell

abbrev pub is_closing_right : ℕ → CellRight → ℕ
is_closing_right k r = closes_by r.kind k r.cell

-- how many rights it has to the collector k that is being closed
abbrev pub closing_rights_at : ℕ → View → ℕ
closing_rights_at k v = total (is_closing_right k) v.cells.rights

-- 1 where it closes the collector k
abbrev pub closes_at : ℕ → View → ℕ
closes_at k v = one_in k v.slots.closes

-- cells hold owners of slots alone; one right at most is to each; and to a cell that is taken; a collector is being closed exactly where the right to its cell,
-- whoever has it, is of that kind; and words of pointers are such
pub record CellsInvariant (sizes : Sizes) (ws : List ℕ) (vs : List View) : Type 0 where
  pub inside : (i : ℕ) → IsInCell sizes ws i → i < sizes.slots
  pub single : (d : ℕ) → total (rights_at d) vs ≤ 1
  pub taken : (j : ℕ) (v : View) (r : CellRight) → get_elem? vs j ≡ some v → HasRight v r → IsTaken sizes ws r
  pub closing : (k : ℕ) → total (closes_at k) vs ≡ total (closing_rights_at k) vs
  pub pointers : HavePointers sizes ws

-- What each step on a cell makes of what the participant knows, and what it tells
use Rattle.std.specs.Prelude.{◌≡◌, ◌≢◌, ℕ, ◌+◌, List, [], ◌∷◌, slice_index, slice_set}
use Rattle.sdd_rights.specs.declared.views.CellsView.{CellsView}
use Rattle.sdd_rights.specs.declared.views.View.{View}
use Rattle.sdd_rights.specs.declared.views.Sizes.{Sizes}
use Rattle.sdd_domain_invariant.specs.Words.{cell_word, pointer_word}
use Rattle.sdd_domain_invariant.specs.Codes.{held_slots}
use Rattle.sdd_domain_invariant.specs.Epoch.{IsLone}
use Rattle.sdd_domain_invariant.specs.Slots.{Sees}
use Rattle.sdd_domain_invariant.specs.Slots.SlotSteps.{seeing}

-- what is known of the words once y is in that of a cell
abbrev pub cell_noted : ℕ → ℕ → View → List ℕ
cell_noted cell y v = slice_set v.words cell y

-- a lone participant finds what it knew
abbrev pub KnewCell : ℕ → View → ℕ → Type 0
KnewCell cell v x = IsLone v.epoch → x ≡ slice_index v.words cell

-- what a cell held comes, whose word was x, and y is in it then; and these are the rights that it has
abbrev pub coming : ℕ → ℕ → ℕ → CellsView → View → View
coming cell x y rights v = record v { slots = record v.slots { owns = held_slots x }; cells = rights; words = cell_noted cell y v }

-- each of these: what was known before, the number found (at a store the number stored), and what is known after
-- the owner that it has, or none, goes into a cell, whose word is y then, and what the cell held comes
abbrev pub SwapsCell : ℕ → CellsView → ℕ → View → ℕ → View → Type 0
SwapsCell y rights cell v x w = (w ≡ coming cell x y rights v) × KnewCell cell v x

-- the same where the cell's word is old, else nothing
abbrev pub ExchangesCell : ℕ → ℕ → CellsView → ℕ → View → ℕ → View → Type 0
ExchangesCell old y rights cell v x w = (x ≡ old → w ≡ coming cell x y rights v) × (x ≢ old → w ≡ v) × KnewCell cell v x

-- the word of a cell is y, and all else as it was
abbrev pub noting : ℕ → ℕ → View → View
noting cell y v = record v { words = cell_noted cell y v }

-- the word y comes in place of old, where the cell's word is old
abbrev pub RetagsCell : ℕ → ℕ → ℕ → View → ℕ → View → Type 0
RetagsCell old y cell v x w = (x ≡ old → w ≡ noting cell y v) × (x ≢ old → w ≡ v) × KnewCell cell v x

-- the word of a cell is looked at
abbrev pub LooksAtCell : ℕ → View → ℕ → View → Type 0
LooksAtCell cell v x w = (w ≡ v) × KnewCell cell v x

-- it is looked at under a guard, which sees the slot whose owner the cell holds from now on, if it didn't before
abbrev pub SeesCell : ℕ → View → ℕ → View → Type 0
SeesCell cell v x w = ((slot : ℕ) → held_slots x ≡ slot ∷ [] → ¬ (Sees v slot) → w ≡ seeing slot v)
    × ((slot : ℕ) → held_slots x ≡ slot ∷ [] → Sees v slot → w ≡ v) × (held_slots x ≡ [] → w ≡ v) × KnewCell cell v x

-- a step on the word i tells R of the cell whose word it is
abbrev pub AtCell : (ℕ → View → ℕ → View → Type 0) → ℕ → View → ℕ → View → Type 0
AtCell R i v x w = (cell : ℕ) → i ≡ cell_word cell → R cell v x w

-- ---- the word beside a cell's own, which is its pointer where the cell is for raw pointers
-- where it is among those of cells and slots
abbrev pub pointer_behind : Sizes → ℕ → ℕ
pointer_behind sizes cell = sizes.cells + cell

-- it is y, and all else as it was
abbrev pub noting_pointer : ℕ → ℕ → View → View
noting_pointer cell y v = noting (pointer_behind v.sizes cell) y v

-- a lone participant finds what it knew
abbrev pub KnewPointer : ℕ → View → ℕ → Type 0
KnewPointer cell v = KnewCell (pointer_behind v.sizes cell) v

-- it is looked at
abbrev pub LooksAtPointer : ℕ → View → ℕ → View → Type 0
LooksAtPointer cell v x w = (w ≡ v) × KnewPointer cell v x

-- y comes in its place
abbrev pub SwapsPointer : ℕ → ℕ → View → ℕ → View → Type 0
SwapsPointer y cell v x w = (w ≡ noting_pointer cell y v) × KnewPointer cell v x

-- y comes in place of old, where it is old
abbrev pub ExchangesPointer : ℕ → ℕ → ℕ → View → ℕ → View → Type 0
ExchangesPointer old y cell v x w = (x ≡ old → w ≡ noting_pointer cell y v) × (x ≢ old → w ≡ v) × KnewPointer cell v x

-- a step on the word i tells R of the cell whose pointer's word it is
abbrev pub AtPointer : (ℕ → View → ℕ → View → Type 0) → ℕ → View → ℕ → View → Type 0
AtPointer R i v x w = (cell : ℕ) → i ≡ pointer_word v.sizes cell → R cell v x w

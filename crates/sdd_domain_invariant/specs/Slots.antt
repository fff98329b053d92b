-- The part of the rule for slots and cells
pub mod SlotSteps
pub mod Records
pub mod FilledInvariant
pub mod BoundInvariant
pub mod KindsInvariant
use Rattle.std.specs.Prelude.{◌≡◌, ℕ, ◌+◌, ◌*◌, ◌<◌, ◌≤◌, List, length, slice_index, Some}
use mathlib.Core.Option.{some}
use lib.ListN.{get_elem?}
use Rattle.sdd_rights.specs.declared.views.EpochView.{EpochView}
use Rattle.sdd_rights.specs.declared.views.WaitingItem.{WaitingItem}
use Rattle.sdd_rights.specs.declared.views.View.{View}
use Rattle.sdd_rights.specs.declared.views.Sizes.{Sizes}
use Rattle.sdd_domain_invariant.specs.Words.{behind, cell_word, first_cell, slot_word, words_behind, all_words}
use Rattle.sdd_domain_invariant.specs.Epoch.{HasPlace, IsOpen}
use Rattle.sdd_domain_invariant.specs.Sums.{total, span, is, times}
use Rattle.sdd_domain_invariant.specs.Codes.{WordReading}

abbrev pub slot_at : Sizes → List ℕ → ℕ → ℕ
slot_at sizes ws i = slice_index ws (slot_word sizes i)

-- how many owners of the slot i it has
abbrev pub owners_at : ℕ → View → ℕ
owners_at i v = times i v.slots.owns

abbrev pub waits_in : ℕ → WaitingItem → ℕ
waits_in i x = is i x.slot

-- how many items of the slot i wait with it
abbrev pub items_at : ℕ → View → ℕ
items_at i v = total (waits_in i) v.slots.waits

-- it has an owner of the slot i
abbrev pub Owns : View → ℕ → Type 0
Owns v i = 0 < times i v.slots.owns

-- a guard of its own sees the slot i
abbrev pub Sees : View → ℕ → Type 0
Sees v i = 0 < times i v.slots.sees

abbrev pub Holds : View → ℕ → Type 0
Holds v i = v.slots.holds ≡ Some i

-- an item that waits with a participant was retired at a count that this one knows;
-- after k > 0 changes the last count that it found is at least the one at the retirement and k - 1 more
pub record IsTimed (v : EpochView) (x : WaitingItem) : Type 0 where
  pub known : x.retired_at ≤ v.known
  pub found : 0 < x.changes → x.retired_at + x.changes ≤ v.found + 1

-- what is true of one participant and the words: who holds a slot has an owner of it, which isn't counted, so that it is the only one
pub record Tallies (z : WordReading) (sizes : Sizes) (ws : List ℕ) (v : View) : Type 0 where
  pub timed : (k : ℕ) (x : WaitingItem) → get_elem? v.slots.waits k ≡ some x → IsTimed v.epoch x
  pub guarded : (i : ℕ) → Sees v i → IsOpen v.epoch
  pub full : (i : ℕ) → Sees v i → z.full (slot_at sizes ws i) ≡ 1
  pub held : (i : ℕ) → Holds v i → Owns v i × (z.counted (slot_at sizes ws i) ≡ 0)

-- what is true of any two participants, and of one with itself: a guard that sees an item's slot has published at most at the item's
-- retirement; and who holds a slot has not looked past a place whose guard sees it
pub record SeenBeforeRetired (v w : View) : Type 0 where
  pub since : (i k : ℕ) (x : WaitingItem) → Sees v i → get_elem? w.slots.waits k ≡ some x → x.slot ≡ i → v.epoch.since ≤ x.retired_at
  pub looked : (i : ℕ) → Sees v i → Holds w i → w.slots.looked ≤ v.epoch.place

-- the words, and what all participants know: the owners of a slot in views and in cells are as many as its word says,
-- and an item waits with somebody exactly where the word says so
pub record SlotsInvariant (z : WordReading) (sizes : Sizes) (ws : List ℕ) (vs : List View) : Type 0 where
  pub long : length ws ≡ all_words sizes
  pub owned : (i : ℕ) → z.alive (slot_at sizes ws i) ≡ total (owners_at i) vs + span (z.names i) ws first_cell sizes.cells
  pub waited : (i : ℕ) → z.waiting (slot_at sizes ws i) ≡ total (items_at i) vs
  pub each : (j : ℕ) (v : View) → get_elem? vs j ≡ some v → Tallies z sizes ws v
  pub two : (j k : ℕ) (v w : View) → get_elem? vs j ≡ some v → get_elem? vs k ≡ some w → SeenBeforeRetired v w

-- what is known of the words of cells, slots and jobs, one behind the other, is what they are
pub record KnowsWords (sizes : Sizes) (ws known : List ℕ) : Type 0 where
  pub long : length known ≡ words_behind sizes
  pub cells : (k : ℕ) → k < 2 * sizes.cells → slice_index known k ≡ slice_index ws (cell_word k)
  pub slots : (i : ℕ) → slice_index known (behind sizes i) ≡ slice_index ws (slot_word sizes i)

-- where there is one place, its participant knows each word of cells, slots and jobs
pub record LoneInvariant (sizes : Sizes) (ws : List ℕ) (vs : List View) : Type 0 where
  pub knows : sizes.participants ≡ 1 → (j : ℕ) (v : View) → get_elem? vs j ≡ some v → HasPlace v.epoch → KnowsWords sizes ws v.words

-- The collectors' part of the rule: which items wait privately, which of them a close empties, and that no guard sees what a close may take
pub mod CollectorWordSteps
pub mod CollectorSteps
use Rattle.std.specs.Prelude.{◌≡◌, ℕ, ◌<◌, ◌≤◌, List, Option, Some, None, true}
use mathlib.Core.Option.{some}
use lib.ListN.{get_elem?}
use Rattle.sdd_rights.specs.declared.views.PrivateItem.{PrivateItem}
use Rattle.sdd_rights.specs.declared.views.View.{View}
use Rattle.sdd_rights.specs.declared.views.Sizes.{Sizes}
use Rattle.sdd_domain_invariant.specs.Codes.{WordReading, emptied_word, left_word}
use Rattle.sdd_domain_invariant.specs.Slots.{slot_at, waits_in, Sees, IsTimed}
use Rattle.sdd_domain_invariant.specs.Sums.{total, is, times}

abbrev pub private_in : ℕ → PrivateItem → ℕ
private_in i x = waits_in i x.item

-- how many private items of the slot i wait with it
abbrev pub privates_at : ℕ → View → ℕ
privates_at i v = total (private_in i) v.slots.privates

abbrev pub one_in : ℕ → Option ℕ → ℕ
one_in i None = 0
one_in i (Some j) = is i j

-- 1 where it moves the private item of the slot i out for a close
abbrev pub empties_at : ℕ → View → ℕ
empties_at i v = one_in i v.slots.empties

abbrev pub Empties : View → ℕ → Type 0
Empties v i = v.slots.empties ≡ Some i

-- it closes the collector k
abbrev pub Closes : View → ℕ → Type 0
Closes v k = v.slots.closes ≡ Some k

-- it found that its private item of the slot i was emptied
abbrev pub FoundEmptied : View → ℕ → Type 0
FoundEmptied v i = 0 < times i v.slots.emptied

-- this private item waits with it
abbrev pub HasPrivate : View → PrivateItem → Type 0
HasPrivate v x = (m : ℕ) × (get_elem? v.slots.privates m ≡ some x)

-- nobody moves the value of a slot with this word, and the value is there where its item is private
abbrev pub HasValue : WordReading → ℕ → Type 0
HasValue z x = (z.emptying x ≡ 0) × (z.private x ≡ 1 → z.valued x ≡ 1)

-- what is true of one participant and the words: its private items were retired at counts that it knows, and wait for their collectors or no more;
-- what it found emptied is so, and private with it still; a slot that it empties has the word of one that its bag has let go of, once it found that;
-- and it sees none that a close empties, or that is emptied, as its value is there
pub record KnowsPrivates (z : WordReading) (sizes : Sizes) (ws : List ℕ) (v : View) : Type 0 where
  pub timed : (x : PrivateItem) → HasPrivate v x → IsTimed v.epoch x.item
  pub names : (x : PrivateItem) → HasPrivate v x → (k : ℕ) → 0 < z.waits_for k (slot_at sizes ws x.item.slot) → k ≡ x.collector
  pub found : (i : ℕ) → FoundEmptied v i → (slot_at sizes ws i ≡ emptied_word) × (0 < privates_at i v)
  pub left : v.slots.left ≡ true → (i : ℕ) → Empties v i → slot_at sizes ws i ≡ left_word
  pub seen : (i : ℕ) → Sees v i → HasValue z (slot_at sizes ws i)

-- what is true of any two participants, and of one with itself: a guard that sees a private item's slot has published at most at the item's
-- retirement; and who closes a collector has not looked past a place whose guard sees what waits for it
pub record SeenBeforeClosed (z : WordReading) (sizes : Sizes) (ws : List ℕ) (v w : View) : Type 0 where
  pub since : (i : ℕ) (x : PrivateItem) → Sees v i → HasPrivate w x → x.item.slot ≡ i → v.epoch.since ≤ x.item.retired_at
  pub looked : (i k : ℕ) → Sees v i → Closes w k → 0 < z.waits_for k (slot_at sizes ws i) → w.slots.looked ≤ v.epoch.place

-- the words, and what all participants know: an item waits privately with somebody, and somebody empties it, exactly where its word says so
pub record CollectorsInvariant (z : WordReading) (sizes : Sizes) (ws : List ℕ) (vs : List View) : Type 0 where
  pub private : (i : ℕ) → z.private (slot_at sizes ws i) ≡ total (privates_at i) vs
  pub emptied : (i : ℕ) → z.emptying (slot_at sizes ws i) ≡ total (empties_at i) vs
  pub each : (j : ℕ) (v : View) → get_elem? vs j ≡ some v → KnowsPrivates z sizes ws v
  pub two : (j k : ℕ) (v w : View) → get_elem? vs j ≡ some v → get_elem? vs k ≡ some w → SeenBeforeClosed z sizes ws v w

-- Items that are out as raw: what a participant knows of them, and what its calls make of it
use Rattle.std.specs.Prelude.{◌≡◌, ℕ, Some, false, slice_index, slice_set}
use base.Stored.{Gv}
use Rattle.atomic_table.specs.declared.shared.Seat.{Seat}
use Rattle.sdd_shared_values.specs.declared.value_fraction.ValueFraction.{ValueFraction}
use Rattle.sdd_rights.specs.declared.views.View.{View}
use Rattle.sdd_domain_invariant.specs.Codes.{owned_word, raw_word}
use Rattle.sdd_domain_invariant.specs.Epoch.{IsLone}
use Rattle.sdd_domain_invariant.specs.Slots.SlotSteps.{behind, noted, turned_raw}
use Rattle.sdd_domain_invariant.specs.Slots.FilledInvariant.{newest}
use Rattle.sdd_domain_invariant.specs.Fractions.FractionSteps.{SeatState, undrawing, untold}
use Rattle.sdd_domain_invariant.specs.Raw.RawSteps.{KnewRaw}
use Rattle.sdd_domain_steps.specs.LocalState.{LocalState, word_of}

-- ---- as its callers see it
-- the word of a slot is this from now on
abbrev pub with_word : {J : Type 0} → ℕ → ℕ → LocalState J → LocalState J
with_word slot y m = record m { words = slice_set m.words (behind m.sizes slot) y }

-- the item of a slot is out as raw, or has its only owner again
abbrev pub put_out : {J : Type 0} → ℕ → LocalState J → LocalState J
put_out slot m = with_word slot (raw_word 0) m

abbrev pub taken_back : {J : Type 0} → ℕ → LocalState J → LocalState J
taken_back slot m = with_word slot (owned_word 0) m

-- by the words that a lone participant knows the item of the slot is out as raw
abbrev pub IsOut : {J : Type 0} → LocalState J → ℕ → Type 0
IsOut m slot = word_of m slot ≡ raw_word 0

-- and it moved this into the slot last, for an owner that was the only one
pub record KnowsRaw {J : Type 0} (m : LocalState J) (slot : ℕ) (value : Gv) : Type 0 where
  pub newest : newest slot m.filled ≡ Some (record { slot = slot; shared = false; value = value })
  pub out : IsOut m slot

-- ---- the seat
-- by the words that are known the item of the slot is out as raw
abbrev pub IsKnownOut : {S : Type 0} → Seat S View → ℕ → Type 0
IsKnownOut s slot = slice_index s.me.0.words (behind s.me.0.sizes slot) ≡ raw_word 0

-- the item of an owner that was taken in is out as raw, and its owner's unit in the bank
abbrev pub PutsOut : ℕ → SeatState → ℕ → SeatState → Type 0
PutsOut slot me y me' = (me'.0 ≡ untold (turned_raw slot y (undrawing me.0))) × (me'.1 ≡ me.1)

-- the item was out as raw, has its only owner again, and shows this; the owner has left the participant
pub record TakesBack (slot : ℕ) (value : Gv) (s s' : Seat ValueFraction View) : Type 0 where
  pub table : s'.table_id ≡ s.table_id
  pub number : s'.id ≡ s.id
  pub others : s'.me.1 ≡ s.me.1
  pub view : s'.me.0 ≡ record s.me.0 { words = noted slot (owned_word 0) s.me.0 }
  pub out : IsLone s.me.0.epoch → IsKnownOut s slot
  pub knew : KnewRaw slot value s.me.0

-- What a try at a slot makes of what is known
use Rattle.std.specs.Prelude.{◌≡◌, ◌⊎◌, ℕ, ◌<◌, ◌≤◌, slice_index}
use Rattle.atomic_table.specs.declared.shared.Seat.{Seat}
use Rattle.sdd_shared_values.specs.SharedValues.{IsNoValueCode}
use Rattle.sdd_shared_values.specs.declared.value_fraction.ValueFraction.{ValueFraction}
use Rattle.sdd_rights.specs.declared.views.View.{View}
use Rattle.sdd_domain_invariant.specs.Codes.{free_word, waiting_word}
use Rattle.sdd_domain_invariant.specs.Epoch.{IsLone}
use Rattle.sdd_domain_invariant.specs.Slots.SlotSteps.{behind, DefersAt}
use Rattle.sdd_domain_invariant.specs.Fractions.FractionsAtHome.{CarriedFractions}
use Rattle.sdd_domain_invariant.specs.Slots.KindsInvariant.{written}
use Rattle.sdd_domain_invariant.specs.Fractions.FractionSteps.{SeatState, CarriesAll, gamma_of, places_of, making}

-- in a walk once round that begins at a number, k comes before that one
abbrev pub IsBefore : ℕ → ℕ → ℕ → Type 0
IsBefore next that k = ((next ≤ that) × (next ≤ k) × (k < that)) ⊎ ((that < next) × ((next ≤ k) ⊎ (k < that)))

module _ {S : Type 0} where
  -- nothing has changed
  pub record IsUnmoved (s s' : Seat S View) : Type 0 where
    pub table : s'.table_id ≡ s.table_id
    pub number : s'.id ≡ s.id
    pub others : s'.me.1 ≡ s.me.1
    pub view : s'.me.0 ≡ s.me.0

  -- by the words that are known the slot is free
  abbrev pub IsKnownFree : Seat S View → ℕ → Type 0
  IsKnownFree s slot = slice_index s.me.0.words (behind s.me.0.sizes slot) ≡ free_word 0

  -- a lone participant knows each of these slots to be taken
  abbrev pub AreTaken : (ℕ → Type 0) → Seat S View → Type 0
  AreTaken P s = IsLone s.me.0.epoch → (slot : ℕ) → P slot → ¬ (IsKnownFree s slot)

  -- of the slots from one up to another one it knows those to be taken that come before that one in a walk once round that begins at next
  abbrev pub ComesFirst : ℕ → ℕ → ℕ → ℕ → Seat S View → Type 0
  ComesFirst from to next that = AreTaken (λ k. (from ≤ k) × (k < to) × IsBefore next that k)

  -- none of these slots was found free; a lone participant knows each of them to be taken
  pub record Misses (P : ℕ → Type 0) (s s' : Seat S View) : Type 0 where
    pub same : IsUnmoved s s'
    pub taken : AreTaken P s

  -- too many exchanges were lost, to others
  pub record Loses (s s' : Seat S View) : Type 0 where
    pub same : IsUnmoved s s'
    pub many : ¬ (IsLone s.me.0.epoch)

-- all fractions in the slot are out, and those that were out before
unfoldable pub AllOut : ℕ → SeatState → CarriedFractions → Type 0
AllOut slot me xs = CarriesAll (gamma_of me) slot (places_of me) 0 IsNoValueCode me.1 xs

-- the participant owns a slot more, which it claimed by this word, for an item that it makes, whose value it is to move in
pub record Gains (word slot : ℕ) (s s' : Seat ValueFraction View) : Type 0 where
  pub table : s'.table_id ≡ s.table_id
  pub number : s'.id ≡ s.id
  pub row : AllOut slot s.me s'.me.1
  pub view : s'.me.0 ≡ making slot word s.me.0
  pub noted : written s'.me.0 slot ≡ word
  pub inside : slot < s.me.0.sizes.slots
  pub free : IsLone s.me.0.epoch → IsKnownFree s slot

-- a job waits with the participant in the place of this number from now on
pub record Defers (place : ℕ) (s s' : Seat ValueFraction View) : Type 0 where
  pub table : s'.table_id ≡ s.table_id
  pub number : s'.id ≡ s.id
  pub others : s'.me.1 ≡ s.me.1
  pub view : DefersAt place (waiting_word 0) s.me.0 s'.me.0
  pub free : IsLone s.me.0.epoch → IsKnownFree s place

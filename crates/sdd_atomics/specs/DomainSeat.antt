-- A participant's seat over a step
use Rattle.std.specs.Prelude.{◌≡◌, ℕ, Bool, List, [], ◌∷◌}
use base.Stored.{Gv, gnil}
use Rattle.atomic_table.specs.Table.{Me, Step}
use Rattle.atomic_table.specs.declared.shared.Seat.{Seat}
use Rattle.sdd_rights.specs.declared.views.EpochView.{EpochView}
use Rattle.sdd_rights.specs.declared.views.SlotsView.{SlotsView}
use Rattle.sdd_rights.specs.declared.views.View.{View}
use Rattle.sdd_domain_invariant.specs.Epoch.EpochSteps.{Publishes}
use Rattle.sdd_domain_invariant.specs.Slots.SlotSteps.{changed}
use Rattle.sdd_shared_values.specs.declared.value_fraction.ValueFraction.{ValueFraction}
use Rattle.sdd_rights.specs.Views.{owner_of}
use Rattle.sdd_domain_invariant.specs.Fractions.FractionsAtHome.{CarriedFractions, Moves}
use Rattle.sdd_domain_invariant.specs.Fractions.BankInvariant.{founded, with_ledger}
use Rattle.sdd_domain_invariant.specs.Fractions.FractionSteps.{SeatState, FillsSlot, SeesOwned, LearnsOwned, ClosesHome}
use Rattle.sdd_atomics.specs.TableFacts.{TableFacts}

module _ {S : Type 0} where
  -- what the seat knows
  abbrev pub view : Seat S View → View
  view s = s.me.0

  abbrev pub epoch : Seat S View → EpochView
  epoch s = s.me.0.epoch

  abbrev pub slots : Seat S View → SlotsView
  slots s = s.me.0.slots

  abbrev pub words_known : Seat S View → List ℕ
  words_known s = s.me.0.words

  -- a new seat, which is as the first one, but may not found the bank, nor the ledger
  abbrev pub Sits : Step S → Me S View → ℕ → Me S View → Type 0
  Sits st m r m' = m' ≡ (with_ledger (founded m.0), m.1)

  -- a step that tells R: of what was known before, the number found and what is known after
  abbrev pub Told : (View → ℕ → View → Type 0) → Me S View → ℕ → Me S View → Type 0
  Told R m r m' = (m'.1 ≡ m.1) × R m.0 r m'.0

  -- it is the same seat, and knows the same of sizes, fractions, pledges and cells
  abbrev pub IsSame : Seat S View → Seat S View → Type 0
  IsSame s s' = (s'.table_id ≡ s.table_id) × (s'.id ≡ s.id) × (s'.me.1 ≡ s.me.1) × (s'.me.0.sizes ≡ s.me.0.sizes) × (s'.me.0.fractions ≡ s.me.0.fractions)
      × (s'.me.0.pledges ≡ s.me.0.pledges) × (s'.me.0.cells ≡ s.me.0.cells)

  -- the seat is as it was, but for what it knows of the epoch
  abbrev pub IsSameBut : Seat S View → Seat S View → Type 0
  IsSameBut s s' = IsSame s s' × (s'.me.0.places ≡ s.me.0.places) × (slots s' ≡ slots s) × (words_known s' ≡ words_known s)

  -- a step of the epoch's part
  abbrev pub Stepped : (EpochView → ℕ → EpochView → Type 0) → Seat S View → ℕ → Seat S View → Type 0
  Stepped R s r s' = IsSameBut s s' × R (epoch s) r (epoch s')

  -- any step, which tells R
  abbrev pub Taught : (View → ℕ → View → Type 0) → Seat S View → ℕ → Seat S View → Type 0
  Taught R s r s' = (s'.table_id ≡ s.table_id) × (s'.id ≡ s.id) × (s'.me.1 ≡ s.me.1) × R (view s) r (view s')

  -- its count is published, and is a change for what waits if it is another one than before
  abbrev pub HasPublished : Seat S View → Seat S View → Type 0
  HasPublished s s' = IsSame s s' × (s'.me.0.places ≡ s.me.0.places) × (slots s' ≡ changed (view s)) × (words_known s' ≡ words_known s)
      × Publishes (epoch s) 2 (epoch s')

-- a step that may take fractions or give them, which tells R
abbrev pub Moved : (SeatState → ℕ → SeatState → Type 0) → Seat ValueFraction View → ℕ → Seat ValueFraction View → Type 0
Moved R s r s' = (s'.table_id ≡ s.table_id) × (s'.id ≡ s.id) × R s.me r s'.me

-- the same on no word
abbrev pub MovedAlone : (SeatState → SeatState → Type 0) → Seat ValueFraction View → Seat ValueFraction View → Type 0
MovedAlone R s s' = (s'.table_id ≡ s.table_id) × (s'.id ≡ s.id) × R s.me s'.me

-- what the fraction shows that was taken last
abbrev pub shown_last : CarriedFractions → Gv
shown_last [] = gnil
shown_last (x ∷ xs) = x.1.content.shown

-- the value of the slot that it moves was moved in, for an owner that may be one of several
abbrev pub HousesMoved : Bool → SeatState → SeatState → Type 0
HousesMoved shared me me' = (slot : ℕ) → Moves me.0 slot → FillsSlot slot shared (shown_last me.1) me me'

-- a guard sees a slot beside the seat of its owner
abbrev pub WatchesOwned : View → SeatState → SeatState → Type 0
WatchesOwned w me me' = (slot : ℕ) (shared : Bool) (value : Gv) → w ≡ owner_of slot shared value → SeesOwned slot shared value me me'

-- a participant learns beside the seat of a slot's owner what it knows of the slot
abbrev pub RecallsOwned : View → SeatState → SeatState → Type 0
RecallsOwned w me me' = (slot : ℕ) (shared : Bool) (value : Gv) → w ≡ owner_of slot shared value → LearnsOwned slot shared value me me'

-- no guard is open, nothing is seen, and all fractions are at home
abbrev pub HasClosed : Seat ValueFraction View → Seat ValueFraction View → Type 0
HasClosed = λ s. Moved ClosesHome s 1

-- it knows how many of each there are, and of which ghost map the values' places are
abbrev pub Knows : TableFacts → Seat ValueFraction View → Type 0
Knows b s = (s.me.0.sizes ≡ b.sizes) × (s.me.0.fractions.gamma ≡ b.gamma)

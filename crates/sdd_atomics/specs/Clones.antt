-- One owner more beside the seat of one of several
use Rattle.std.specs.Prelude.{◌≡◌, ℕ, true, [], ◌∷◌, ◌+◌, ◌-◌, ◌^◌, ◌%◌, ◌<◌, ◌≤◌, None}
use base.Stored.{Gv}
use Rattle.atomic_table.specs.Seated.{TableId}
use Rattle.atomic_table.specs.Table.{Allows}
use Rattle.sdd_witness.specs.Ledger.{Pledge}
use Rattle.sdd_rights.specs.declared.views.View.{View}
use Rattle.sdd_rights.specs.contracts.views.View.{the_row}
use Rattle.sdd_rights.specs.Views.{owner_of}
use Rattle.sdd_domain_invariant.specs.Words.{slot_word}
use Rattle.sdd_domain_invariant.specs.Codes.{alive, counted, most_owners, shared_word}
use Rattle.sdd_domain_invariant.specs.Epoch.{IsLone}
use Rattle.sdd_domain_invariant.specs.Slots.SlotSteps.{Knew, one_more, noted}
use Rattle.sdd_domain_invariant.specs.DomainInvariant.{DomainInvariant}
use Rattle.sdd_domain_invariant.specs.Fractions.FractionSteps.{SeatState, AddsOne, TakesOneBack, OfSlot, owning_more}
use Rattle.sdd_atomics.specs.declared.domain_table.TableLayout.{TableLayout}

-- a word that counts as many owners as may share a slot
abbrev pub most_word : ℕ
most_word = shared_word most_owners

-- it has a pledge of the view of the seat of one of several owners of a slot, which shows this
abbrev pub HasPledged : View → ℕ → Gv → Type 0
HasPledged v slot value = (p : Pledge) × (v.pledges.own ≡ p ∷ []) × (p.view ≡ the_row.coded.code (owner_of slot true value))

-- an owner more comes beside its pledge
abbrev pub AddsPledged : ℕ → SeatState → ℕ → SeatState → Type 0
AddsPledged i me x me' = (slot : ℕ) (value : Gv) → i ≡ slot_word me.0.sizes slot → HasPledged me.0 slot value → AddsOne value slot me x me'

-- it may add one to the word i, and take that back where it was to be added past the bound
abbrev pub MayAdd : ℕ → TableLayout → TableId → ℕ → SeatState → Type 0
MayAdd i key z id me = (i < z.words) × Allows (DomainInvariant key.values_name.gamma key.sizes) z.slots id me i (λ n. (n + 1) % 2 ^ 64) (AddsPledged i me)
    × ((n : ℕ) (u : SeatState) → AddsPledged i me n u → most_word ≤ n
    → Allows (DomainInvariant key.values_name.gamma key.sizes) z.slots id u i (λ n. (n + (2 ^ 64 - 1)) % 2 ^ 64) (OfSlot TakesOneBack i u))

-- it did, where it found n
abbrev pub HasAdded : ℕ → SeatState → ℕ → SeatState → Type 0
HasAdded i me n after = (n < most_word → AddsPledged i me n after)
    × (most_word ≤ n → (u : SeatState) × (m : ℕ) × AddsPledged i me n u × OfSlot TakesOneBack i u m after)

-- one owner more of a slot, where fewer than may share it do; else what it knows is as before, but for its note of the word
pub record ClonesOne (value : Gv) (slot : ℕ) (me : SeatState) (x : ℕ) (me' : SeatState) : Type 0 where
  pub several : counted x ≡ 1
  pub left : 0 < alive x
  pub comes : alive x < most_owners → me' ≡ (owning_more slot value (one_more slot (x + 1) None me.0), me.1)
  pub refused : most_owners ≤ alive x → (z : ℕ) × (me' ≡ (record me.0 { words = noted slot z me.0 }, me.1))
  pub lone : most_owners ≤ alive x → IsLone me.0.epoch → me' ≡ me
  pub knew : Knew slot me.0 x

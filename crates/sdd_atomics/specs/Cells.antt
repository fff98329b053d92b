-- Steps on a cell beside the seat of the right to it
use Rattle.std.specs.Prelude.{◌≡◌, ℕ, Bool, true, false, List, [], ◌∷◌}
use Rattle.sdd_witness.specs.Ledger.{Pledge}
use Rattle.sdd_rights.specs.declared.views.CellKind.{CellKind}
use Rattle.sdd_rights.specs.declared.views.CellKind.TheVariants.{Owned, Shared, Raw, Collector}
use Rattle.sdd_rights.specs.declared.views.ShownValue.{ShownValue}
use Rattle.sdd_rights.specs.declared.views.View.{View}
use Rattle.sdd_rights.specs.contracts.views.View.{the_row}
use Rattle.sdd_rights.specs.Views.{right_to}
use Rattle.sdd_rights.specs.Owner.{cell_kind}
use Rattle.sdd_domain_invariant.specs.Words.{cell_word}
use Rattle.sdd_domain_invariant.specs.Codes.{held_slots}
use Rattle.sdd_domain_invariant.specs.Slots.FilledInvariant.{HasRecord}
use Rattle.sdd_domain_invariant.specs.Fractions.FractionSteps.{SeatState}
use Rattle.sdd_domain_invariant.specs.Cells.CellSteps.{SwapsOne, ExchangesOne, FreesCell, FreesBare, LearnsCell, FindsCell}
use Rattle.sdd_atomics.specs.SeatAtTable.{DomainSeat, sizes_of}

abbrev pub cells_of : DomainSeat → ℕ
cells_of s = (sizes_of s).cells

-- what it has of owners may go into a cell of this kind, by this word: an owner of that kind, or none
abbrev pub FitsCell : CellKind → ℕ → List ShownValue → Type 0
FitsCell Owned word told = (r : ShownValue) → HasRecord told r → r.shared ≡ false
FitsCell Shared word told = (r : ShownValue) → HasRecord told r → r.shared ≡ true
FitsCell Raw word told = (held_slots word ≡ []) × (told ≡ [])
FitsCell Collector word told = ⊥

-- it has a pledge of the view of the seat of the right to a cell, which is for owners of which there may be several, or not
abbrev pub HasPledgedRight : View → ℕ → Bool → Type 0
HasPledgedRight v cell shared = (p : Pledge) × (v.pledges.own ≡ p ∷ []) × (p.view ≡ the_row.coded.code (right_to cell (cell_kind shared)))

-- a swap beside its pledge
abbrev pub SwapsPledged : ℕ → ℕ → SeatState → ℕ → SeatState → Type 0
SwapsPledged y i me x me' = (cell : ℕ) (shared : Bool) → i ≡ cell_word cell → HasPledgedRight me.0 cell shared → SwapsOne y shared cell me x me'

-- an exchange
abbrev pub ExchangesPledged : ℕ → ℕ → ℕ → SeatState → ℕ → SeatState → Type 0
ExchangesPledged old y i me x me' = (cell : ℕ) (shared : Bool) → i ≡ cell_word cell → HasPledgedRight me.0 cell shared
    → ExchangesOne old y shared cell me x me'

-- a cell is free then, by the right that it has
abbrev pub FreesOwn : ℕ → SeatState → ℕ → SeatState → Type 0
FreesOwn i me x me' = (cell : ℕ) (shared : Bool) → i ≡ cell_word cell → me.0.cells.rights ≡ record { cell = cell; kind = cell_kind shared } ∷ []
    → FreesCell shared cell me x me'

-- the same of a cell that holds no owners
abbrev pub FreesOwnBare : ℕ → SeatState → ℕ → SeatState → Type 0
FreesOwnBare i me x me' = (cell : ℕ) → i ≡ cell_word cell → FreesBare cell me x me'

-- beside the seat of the right to a cell
abbrev pub RecallsCell : View → SeatState → SeatState → Type 0
RecallsCell w me me' = (cell : ℕ) (shared : Bool) → w ≡ right_to cell (cell_kind shared) → LearnsCell cell shared me me'

-- beside the seat of a right to a cell of any kind
abbrev pub FindsRight : View → SeatState → SeatState → Type 0
FindsRight w me me' = (cell : ℕ) (kind : CellKind) → w ≡ right_to cell kind → FindsCell cell me me'

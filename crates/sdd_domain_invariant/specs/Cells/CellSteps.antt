-- What each step on a cell makes of the seat: an owner goes into a cell, and what the cell held comes out
use Rattle.std.specs.Prelude.{◌≡◌, ◌≢◌, ℕ, ◌<◌, ◌++◌, Bool, [], ◌∷◌, slice_index}
use base.Stored.{Gv}
use Rattle.sdd_shared_values.specs.SharedValues.{IsValueCode}
use Rattle.sdd_rights.specs.declared.views.CellKind.{CellKind}
use Rattle.sdd_rights.specs.declared.views.CellKind.TheVariants.{Owned, Shared, Raw, Collector}
use Rattle.sdd_rights.specs.declared.views.View.{View}
use Rattle.sdd_rights.specs.Owner.{cell_kind}
use Rattle.sdd_rights.specs.Views.{owner_seat, no_rights}
use Rattle.sdd_domain_invariant.specs.Words.{cell_word, pointer_word}
use Rattle.sdd_domain_invariant.specs.Codes.{alive, counted, held_slots, pointers_end}
use Rattle.sdd_domain_invariant.specs.Epoch.{IsLone}
use Rattle.sdd_domain_invariant.specs.Cells.CellWordSteps.{cell_noted, noting, KnewCell}
use Rattle.sdd_domain_invariant.specs.Fractions.BankInvariant.{one_where}
use Rattle.sdd_domain_invariant.specs.Slots.KindsInvariant.{written}
use Rattle.sdd_domain_invariant.specs.Fractions.FractionSteps.{SeatState, IsRecalled, SeesOwned}

-- what it had of owners is in a cell, whose word is y then
abbrev pub put_in : ℕ → ℕ → View → View
put_in cell y v = record v { slots = record v.slots { owns = [] }; fractions = record v.fractions { owns = [] }; words = cell_noted cell y v }

-- and it has what the cell held: an owner of a slot, which shows this
abbrev pub brought_out : ℕ → ℕ → ℕ → Bool → Gv → View → View
brought_out cell y slot shared value v = record v {
  slots = record v.slots { owns = slot ∷ [] };
  fractions = record v.fractions { owns = record { slot = slot; shared = shared; value = value } ∷ [] };
  words = cell_noted cell y v;
}

-- it has the right to a cell more
abbrev pub gaining : ℕ → CellKind → View → View
gaining cell kind v = record v { cells = record { rights = record { cell = cell; kind = kind } ∷ v.cells.rights } }

-- it has the right to none
abbrev pub rightless : View → View
rightless v = record v { cells = no_rights }

-- the rights that it has go to a seat of their own
abbrev pub rights_of : View → View
rights_of v = record (owner_seat []) { cells = v.cells }

-- the rights that another seat has come
abbrev pub righted : View → View → View
righted v w = record v { cells = record { rights = w.cells.rights ++ v.cells.rights } }

-- what a stored item shows a lone participant moved in last, for an owner of this kind, and by the words that it knows the item has one
abbrev pub KnewStored : ℕ → Bool → Gv → View → Type 0
KnewStored slot shared value v = IsLone v.epoch → IsRecalled slot shared value v

-- each of these: the seat before, the number found, and the seat after
-- the owner that it has, or none, is in the cell then, whose word is y; and it has the one of this kind that the cell held, or none
abbrev pub BringsOut : ℕ → Bool → ℕ → SeatState → ℕ → SeatState → Type 0
BringsOut y shared cell me x me' = (held_slots x ≡ [] → me' ≡ (put_in cell y me.0, me.1))
    × ((slot : ℕ) → held_slots x ≡ slot ∷ [] → (value : Gv) × (slot < me.0.sizes.slots) × IsValueCode value
    × (me' ≡ (brought_out cell y slot shared value me.0, me.1)) × KnewStored slot shared value me.0)

-- a swap
abbrev pub SwapsOne : ℕ → Bool → ℕ → SeatState → ℕ → SeatState → Type 0
SwapsOne y shared cell me x me' = BringsOut y shared cell me x me' × KnewCell cell me.0 x

-- an exchange
abbrev pub ExchangesOne : ℕ → ℕ → Bool → ℕ → SeatState → ℕ → SeatState → Type 0
ExchangesOne old y shared cell me x me' = (x ≡ old → BringsOut y shared cell me x me') × (x ≢ old → me' ≡ me) × KnewCell cell me.0 x

-- the claim of a cell that is free
abbrev pub ClaimsCell : ℕ → CellKind → ℕ → SeatState → ℕ → SeatState → Type 0
ClaimsCell y kind cell me x me' = (x ≡ 0 → me' ≡ (gaining cell kind (put_in cell y me.0), me.1)) × (x ≢ 0 → me' ≡ me) × KnewCell cell me.0 x

-- a cell is free then, of which it had the right
abbrev pub FreesCell : Bool → ℕ → SeatState → ℕ → SeatState → Type 0
FreesCell shared cell me x me' = ((m : SeatState) × BringsOut 0 shared cell me x m × (me' ≡ (rightless m.0, m.1))) × KnewCell cell me.0 x

-- a cell that holds no owners is free then, of which it had the right
abbrev pub FreesBare : ℕ → SeatState → ℕ → SeatState → Type 0
FreesBare cell me x me' = (me' ≡ (rightless (put_in cell 0 me.0), me.1)) × (held_slots x ≡ []) × (0 < x) × KnewCell cell me.0 x

-- the owner that it has is in a cell then that held none and has this word, and the right that it has to it is one for owners of this kind
abbrev pub FillsBare : ℕ → Bool → ℕ → SeatState → ℕ → SeatState → Type 0
FillsBare y shared cell me x me' =
    (me' ≡ (record (put_in cell y me.0) { cells = record { rights = record { cell = cell; kind = cell_kind shared } ∷ [] } }, me.1))
    × (held_slots x ≡ []) × KnewCell cell me.0 x

-- a cell that holds no owners has the word y then
abbrev pub SwapsBare : ℕ → ℕ → SeatState → ℕ → SeatState → Type 0
SwapsBare y cell me x me' = (me' ≡ (noting cell y me.0, me.1)) × (held_slots x ≡ []) × KnewCell cell me.0 x

-- an exchange by which a cell holds what it held
abbrev pub RetagsOne : ℕ → ℕ → ℕ → SeatState → ℕ → SeatState → Type 0
RetagsOne old y cell me x me' = (x ≡ old → me' ≡ (noting cell y me.0, me.1)) × (x ≢ old → me' ≡ me) × KnewCell cell me.0 x

-- cells of this kind hold no owners, and are no collectors that are being closed
abbrev pub IsBare : CellKind → Type 0
IsBare Owned = ⊥
IsBare Shared = ⊥
IsBare Raw = Unit {0}
IsBare Collector = ⊥

-- a look
abbrev pub LooksInCell : ℕ → SeatState → ℕ → SeatState → Type 0
LooksInCell cell me x me' = (me' ≡ me) × KnewCell cell me.0 x

-- a look under a guard, which sees the item whose owner the cell holds from now on
abbrev pub SeesInCell : ℕ → SeatState → ℕ → SeatState → Type 0
SeesInCell cell me x me' = (held_slots x ≡ [] → me' ≡ me)
    × ((slot : ℕ) → held_slots x ≡ slot ∷ [] → (shared : Bool) × (value : Gv) × (slot < me.0.sizes.slots) × SeesOwned slot shared value me me'
    × KnewStored slot shared value me.0) × KnewCell cell me.0 x

-- what a lone participant knows of a cell, which is for owners of which there may be several, or not: it isn't free; and the owner that it holds is one of
-- that kind
pub record KnowsCell (cell : ℕ) (shared : Bool) (v : View) : Type 0 where
  pub inside : cell < v.sizes.cells
  pub full : 0 < slice_index v.words cell
  pub held : (slot : ℕ) → held_slots (slice_index v.words cell) ≡ slot ∷ []
      → (slot < v.sizes.slots) × (0 < alive (written v slot)) × (counted (written v slot) ≡ one_where shared)

-- beside the right to a cell it learns that there is that cell, and a lone participant what it knows of it; nothing changes
abbrev pub LearnsCell : ℕ → Bool → SeatState → SeatState → Type 0
LearnsCell cell shared me me' = (me' ≡ me) × (cell < me.0.sizes.cells) × (IsLone me.0.epoch → KnowsCell cell shared me.0)

-- beside the right to a cell of any kind it learns that there is that cell, and nothing changes
abbrev pub FindsCell : ℕ → SeatState → SeatState → Type 0
FindsCell cell me me' = (me' ≡ me) × (cell < me.0.sizes.cells)

-- a step on the word i tells R of the cell whose word it is
abbrev pub OfCell : (ℕ → SeatState → ℕ → SeatState → Type 0) → ℕ → SeatState → ℕ → SeatState → Type 0
OfCell R i me x me' = (cell : ℕ) → i ≡ cell_word cell → R cell me x me'

-- a step on the word of a cell's pointer, which takes no fractions and gives none, tells R, and finds such a word
abbrev pub FindsPointer : (ℕ → View → ℕ → View → Type 0) → ℕ → SeatState → ℕ → SeatState → Type 0
FindsPointer R cell me x me' = (me'.1 ≡ me.1) × R cell me.0 x me'.0 × (x < pointers_end)

-- a step on the word i tells R of the cell whose pointer's word it is
abbrev pub OfPointer : (ℕ → SeatState → ℕ → SeatState → Type 0) → ℕ → SeatState → ℕ → SeatState → Type 0
OfPointer R i me x me' = (cell : ℕ) → i ≡ pointer_word me.0.sizes cell → R cell me x me'

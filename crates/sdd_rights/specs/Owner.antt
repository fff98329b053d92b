-- What a right to a slot or a cell of a domain shows: the seat of the slot's owner, or of the right to the cell
use Rattle.std.specs.Prelude.{ℕ, ◌≡◌, ◌==◌, Bool, true, false, List, [], ◌∷◌}
use Rattle.std.proofs.Common.{ap}
use mathlib.Core.HLevel.{→_prop}
use base.Stored.{Gv, gnil, Coded-set, coded_list}
use Rattle.atomic_table.specs.Seated.{itself}
use Rattle.sdd_rights.specs.declared.views.View.{View}
use Rattle.sdd_rights.specs.declared.views.ShownValue.{ShownValue}
use Rattle.sdd_rights.specs.declared.views.CellKind.{CellKind}
use Rattle.sdd_rights.specs.declared.views.CellKind.TheVariants.{Owned, Shared}
use Rattle.sdd_rights.specs.contracts.views.View.{the_row}
use Rattle.sdd_rights.specs.Views.{owner_of, right_to}

-- the views of a witness that is the seat of the owner of a slot, which shows this; it may be one of several
abbrev pub witness_of_owner : ℕ → Bool → Gv → List Gv
witness_of_owner slot shared shown = the_row.coded.code (owner_of slot shared shown) ∷ []

-- the views of a witness that is the seat of the right to a cell of this kind
abbrev pub witness_of_cell : ℕ → CellKind → List Gv
witness_of_cell cell kind = the_row.coded.code (right_to cell kind) ∷ []

-- what a right in a domain is to: its fraction, of a ghost map of its own, is the second one for a cell, and the first one for a slot
abbrev pub is_cell : ℕ → Bool
is_cell fraction = fraction == 1

-- what a cell is for, that holds owners which may be several or not
abbrev pub cell_kind : Bool → CellKind
cell_kind true = Shared
cell_kind false = Owned

abbrev first_code : List Gv → Gv
first_code [] = gnil
first_code (g ∷ gs) = g

abbrev first_shown : List ShownValue → Gv
first_shown [] = gnil
first_shown (s ∷ ss) = s.value

-- an owner's seat shows one value
pub one-shown : (slot : ℕ) (shared : Bool) (g h : Gv) → witness_of_owner slot shared g ≡ witness_of_owner slot shared h → g ≡ h
one-shown slot shared g h e =
    ap (λ (v : View). first_shown v.fractions.owns) (the_row.coded.inj (owner_of slot shared g) (owner_of slot shared h) (ap first_code e))

pub codes-prop : {A : Type 0} {views others : List Gv} → IsProp (A → views ≡ others)
codes-prop {views = views} {others = others} = →_prop (Coded-set (coded_list itself) views others)

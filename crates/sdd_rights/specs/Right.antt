-- The right to a number
use Rattle.std.specs.Prelude.{ℕ, ◌≡◌, ◌≢◌, Bool, true, false, List, [], ◌∷◌}
use base.Stored.{Gv}
use Rattle.sdd_witness.specs.declared.witness.Witness.{Witness}
use Rattle.sdd_rights.specs.declared.views.CellKind.{CellKind}
use Rattle.sdd_rights.specs.Owner.{witness_of_owner, witness_of_cell}
use Rattle.sdd_rights.specs.Units.{GhostName}
pub use Rattle.sdd_rights.specs.RightModel.{home_of_table, cells_of_table, home_in_table, home_by}
use Rattle.sdd_rights.specs.RightModel.{RawRightModel}
use Rattle.sdd_rights.specs.declared.read_fraction.ReadFraction.{ReadFraction}
use Rattle.sdd_rights.specs.declared.right.StandingKind.{StandingKind}
use Rattle.sdd_rights.specs.declared.right.Right.{Right}
use Rattle.sdd_rights.specs.declared.right.NameWitness.{NameWitness}

-- the number that a right is to
abbrev pub number_of : Right → ℕ
number_of right = right.number

-- these are the slots of a domain
abbrev pub AreSlotsOfTable : GhostName → Type 0
AreSlotsOfTable home = (home.tables ≢ []) × (home.cells ≡ false)

-- these are its cells
abbrev pub AreCellsOfTable : GhostName → Type 0
AreCellsOfTable home = (home.tables ≢ []) × (home.cells ≡ true)

-- the home whose number it is
abbrev pub home_of : Right → GhostName
home_of right = right.home

-- in a domain: what its witness knows
abbrev pub views_of : Right → List Gv
views_of right = right.views

-- the witness is the seat of the owner of this slot of the home's table, which may be one of several; the read fraction is of the slot's number in the
-- home's ghost map,
-- and shows what the seat does
pub record IsOwnerBy (home : GhostName) (slot : ℕ) (shared : Bool) (witness : Witness) (read_fraction : ReadFraction) : Type 0 where
  pub table : home.tables ≡ witness.table_id ∷ []
  pub gamma : home.name ≡ read_fraction.gamma
  pub number : read_fraction.number ≡ slot
  pub owner : witness.views ≡ witness_of_owner slot shared read_fraction.shown

-- the witness is the seat of the right to this cell of the home's table
pub record IsCellBy (home : GhostName) (cell : ℕ) (kind : CellKind) (witness : Witness) : Type 0 where
  pub table : home.tables ≡ witness.table_id ∷ []
  pub right : witness.views ≡ witness_of_cell cell kind

-- whether its owner is the only one that there may be
abbrev pub kind_of : Right → StandingKind
kind_of right = right.kind

-- the number that a right of kind raw is to, and the home whose number it is
abbrev pub raw_number_of : RawRightModel → ℕ
raw_number_of right = right.number

abbrev pub raw_home_of : RawRightModel → GhostName
raw_home_of right = right.home

-- the home that a badge names
abbrev pub badge_home : NameWitness → GhostName
badge_home badge = badge.fraction.home

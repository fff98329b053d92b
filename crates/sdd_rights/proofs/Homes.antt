-- Whose number a right is to: a ghost map's where its witness is blank, and else a table's
use Rattle.std.proofs.Common.{◌≡◌, ◌≢◌, ℕ, Bool, true, false, List, [], ◌∷◌, refl, sym, ap, ◌∙◌}
use base.Stored.{Gv}
use Rattle.atomic_table.specs.Seated.{TableId}
use Rattle.sdd_rights.specs.Right.{home_by, home_in_table, home_of_table, cells_of_table}
use Rattle.sdd_rights.specs.Units.{GhostName}

abbrev tables_of : GhostName → List TableId
tables_of home = home.tables

-- a home in a table names that
tables-in : (cell : Bool) (table : TableId) (name size : ℕ) → (home_in_table cell table name size).tables ≡ table ∷ []
tables-in true table name size = refl
tables-in false table name size = refl

size-in : (cell : Bool) (table : TableId) (name size : ℕ) → (home_in_table cell table name size).size ≡ size
size-in true table name size = refl
size-in false table name size = refl

-- a blank one leaves the fraction's home
pub home-blank : (views : List Gv) (table : TableId) (name : ℕ) (cell : Bool) (home : GhostName) → views ≡ [] → home_by views table name cell home ≡ home
home-blank [] table name cell home e = refl
home-blank (g ∷ gs) table name cell home e = absurd (cc)

-- in a ghost map's home the witness is blank
pub blank-in-gamma : (views : List Gv) (table : TableId) (name : ℕ) (cell : Bool) (home gamma : GhostName) → home_by views table name cell home ≡ gamma →
    gamma.tables ≡ [] → views ≡ []
blank-in-gamma [] table name cell home gamma e none = refl
blank-in-gamma (g ∷ gs) table name cell home gamma e none =
    let some : table ∷ [] ≡ [] = sym (tables-in cell table name home.size) ∙ (ap tables_of e ∙ none) in absurd (cc)

-- so the fraction is of it
pub fraction-in-gamma : (views : List Gv) (table : TableId) (name : ℕ) (cell : Bool) (home gamma : GhostName) → home_by views table name cell home ≡ gamma →
    gamma.tables ≡ [] → home ≡ gamma
fraction-in-gamma views table name cell home gamma e none =
    sym (home-blank views table name cell home (blank-in-gamma views table name cell home gamma e none)) ∙ e

-- with a witness it is the table's
pub home-witnessed : (views : List Gv) (table : TableId) (name : ℕ) (cell : Bool) (home : GhostName) → views ≢ [] →
    home_by views table name cell home ≡ home_in_table cell table name home.size
home-witnessed [] table name cell home some = absurd (some refl)
home-witnessed (g ∷ gs) table name cell home some = refl

-- of slots, or of cells
pub slots-witnessed : (views : List Gv) (table : TableId) (name : ℕ) (cell : Bool) (home : GhostName) → cell ≡ false → views ≢ [] →
    home_by views table name cell home ≡ home_of_table table name home.size
slots-witnessed views table name cell home is some =
    home-witnessed views table name cell home some ∙ ap (λ (b : Bool). home_in_table b table name home.size) is

pub cells-witnessed : (views : List Gv) (table : TableId) (name : ℕ) (cell : Bool) (home : GhostName) → cell ≡ true → views ≢ [] →
    home_by views table name cell home ≡ cells_of_table table home.size
cells-witnessed views table name cell home is some =
    home-witnessed views table name cell home some ∙ ap (λ (b : Bool). home_in_table b table name home.size) is

-- outside a ghost map there is a witness
pub witness-there : (views : List Gv) (table : TableId) (name : ℕ) (cell : Bool) (home : GhostName) → home.tables ≡ [] →
    (home_by views table name cell home).tables ≢ [] → views ≢ []
witness-there [] table name cell home none some e = some none
witness-there (g ∷ gs) table name cell home none some e = absurd (cc)

-- and it is to a slot or a cell as the home says
pub cell-there : (views : List Gv) (table : TableId) (name : ℕ) (cell : Bool) (home : GhostName) → views ≢ [] →
    (home_by views table name cell home).cells ≡ cell
cell-there [] table name cell home some = absurd (some refl)
cell-there (g ∷ gs) table name true home some = refl
cell-there (g ∷ gs) table name false home some = refl

pub size-by : (views : List Gv) (table : TableId) (name : ℕ) (cell : Bool) (home : GhostName) → (home_by views table name cell home).size ≡ home.size
size-by [] table name cell home = refl
size-by (g ∷ gs) table name cell home = size-in cell table name home.size

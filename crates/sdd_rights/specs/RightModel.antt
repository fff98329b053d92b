-- What a right tells: its number, the home whose number it is, its kind, and what its witness knows. Which witness, unit and fraction it has is nobody's
-- concern
use Rattle.std.specs.Prelude.{ℕ, ◌≡◌, Bool, true, false, List, [], ◌∷◌}
use Rattle.std.specs.Coded.{coded_bool, Coded-set}
use mathlib.Core.HLevel.{is_prop→PathP}
use base.Stored.{Gv, Coded, coded×, coded_ℕ, coded_list, coded_via}
use Rattle.atomic_table.specs.Seated.{TableId, itself}
use Rattle.sdd_rights.specs.Units.{GhostName, home_coded}
use Rattle.sdd_rights.specs.StandingKind.{IsOwner, is_owner}
use Rattle.sdd_rights.specs.declared.right.StandingKind.{StandingKind}
use Rattle.sdd_rights.specs.contracts.right.StandingKind.{the_row as kinds}

-- the home of the slots of a domain, which are those of its table; the places of their values are of this ghost map
abbrev pub home_of_table : TableId → ℕ → ℕ → GhostName
home_of_table table gamma size = record { name = gamma; size = size; tables = table ∷ []; cells = false }

-- the home of its cells
abbrev pub cells_of_table : TableId → ℕ → GhostName
cells_of_table table size = record { name = 0; size = size; tables = table ∷ []; cells = true }

abbrev pub home_in_table : Bool → TableId → ℕ → ℕ → GhostName
home_in_table true table gamma size = cells_of_table table size
home_in_table false table gamma size = home_of_table table gamma size

-- with a witness it is a home of its table, and else the one of the fraction
abbrev pub home_by : List Gv → TableId → ℕ → Bool → GhostName → GhostName
home_by [] table gamma cell home = home
home_by (g ∷ gs) table gamma cell home = home_in_table cell table gamma home.size

pub record RightModel : Type 0 where
  pub number : ℕ
  pub home : GhostName
  pub kind : StandingKind
  -- in a domain: the code of its owner's view
  pub views : List Gv
  pub owner : IsOwner kind

IsOwner-prop : (k : StandingKind) → IsProp (IsOwner k)
IsOwner-prop k = Coded-set coded_bool (is_owner k) true

-- rights that tell the same are the same
pub same_right : (x y : RightModel) → x.number ≡ y.number → x.home ≡ y.home → x.kind ≡ y.kind → x.views ≡ y.views → x ≡ y
same_right x y number home kind views = λ i. record {
  number = number i;
  home = home i;
  kind = kind i;
  views = views i;
  owner = is_prop→PathP (λ j. IsOwner (kind j)) (λ j. IsOwner-prop (kind j)) x.owner y.owner i;
}

abbrev told_of : RightModel → ℕ × (GhostName × (StandingKind × List Gv))
told_of r = (r.number, (r.home, (r.kind, r.views)))

abbrev pub right_coded : Coded RightModel
right_coded = coded_via (coded× coded_ℕ (coded× home_coded (coded× kinds.coded (coded_list itself)))) told_of
    (λ x y e. same_right x y (λ i. (e i).0) (λ i. (e i).1.0) (λ i. (e i).1.1.0) (λ i. (e i).1.1.1))

-- what a raw right tells: its number, and the home whose number it is
pub record RawRightModel : Type 0 where
  pub number : ℕ
  pub home : GhostName

-- raw rights that tell the same are the same
pub same_raw_right : (x y : RawRightModel) → x.number ≡ y.number → x.home ≡ y.home → x ≡ y
same_raw_right x y number home = λ i. record { number = number i; home = home i }

abbrev raw_told_of : RawRightModel → ℕ × GhostName
raw_told_of r = (r.number, r.home)

abbrev pub raw_right_coded : Coded RawRightModel
raw_right_coded = coded_via (coded× coded_ℕ home_coded) raw_told_of (λ x y e. same_raw_right x y (λ i. (e i).0) (λ i. (e i).1))

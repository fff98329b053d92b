-- An owner's unit of the number of its value's place
use Rattle.std.specs.Prelude.{◌≡◌, ℕ}
use base.Stored.{Gv}
use Rattle.sdd_rights.specs.declared.read_fraction.ReadFraction.{ReadFraction}

-- it is one of the place of this slot
pub record IsUnitOf (gamma slot : ℕ) (read_fraction : ReadFraction) : Type 0 where
  pub gamma_is : read_fraction.gamma ≡ gamma
  pub number_is : read_fraction.number ≡ slot

-- and shows this
pub record IsReadFractionOf (gamma slot : ℕ) (value : Gv) (read_fraction : ReadFraction) : Type 0 where
  pub unit : IsUnitOf gamma slot read_fraction
  pub shows : read_fraction.shown ≡ value

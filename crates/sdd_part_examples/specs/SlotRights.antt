-- How a slot of the example stands.
use Rattle.std.specs.Prelude.{ℕ, ◌^◌, ◌≡◌, Option, None, Some}
use Rattle.sdd_rights.specs.declared.fraction.Fraction.{Fraction}
use Rattle.sdd_part_examples.specs.declared.slot_rights.Standing.{Standing}
use Rattle.sdd_part_examples.specs.declared.slot_rights.Standing.TheVariants.{Free, Owned}

abbrev pub standing_of : {T : Type 0} → Option T → Standing
standing_of None = Free
standing_of (Some value) = Owned

-- how many units the space keeps
abbrev pub units_of : {T : Type 0} → Option T → ℕ
units_of None = 2 ^ 63
units_of (Some value) = 1

-- what the space keeps of a slot fits what is in it
pub record Fits {T : Type 0} (slot : Option T) (kept : Fraction Standing) : Type 0 where
  pub kind : kept.kind ≡ standing_of slot
  pub units : kept.units ≡ units_of slot

-- What a ledger knows: the code of each entry is that of its value.
use Rattle.std.specs.Prelude.{◌≡◌, ℕ, Option, None, Some, List, slice_index_or}
use base.Stored.{Gv}
use denote.RattleType.{RattleType}
use Rattle.sdd_shared_values.specs.SharedValues.{showing}

-- the code that stands beside a value is that by which units show it
abbrev pub AreCoded : (R : RattleType) → List (Option (R.Denot × Gv)) → Type 0
AreCoded R entries = (place : ℕ) (v : R.Denot) (g : Gv) → slice_index_or entries place None ≡ Some (v, g) → g ≡ showing R v

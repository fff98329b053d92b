-- Places for values, and whose fractions in them are lent
use Rattle.std.specs.Prelude.{ℕ, ◌≡◌, ◌<◌, Option, None, List, [], length, slice_index_or}
use Rattle.sdd_values.specs.Block.{IsUnlent}

-- the value in each place, if it has one; for each place the fraction of each reader; and how many readers there are
pub record LentValues (T : Type 0) : Type 0 where
  pub values : List (Option T)
  pub fractions : List (List (Option ℕ))
  pub readers : ℕ

-- the value in a place, if it has one
abbrev pub value_at : {T : Type 0} → LentValues T → ℕ → Option T
value_at places at = slice_index_or places.values at None

-- each reader has a fraction in each place, and no fraction in an empty place is lent
pub record AreFractions {T : Type 0} (values : List (Option T)) (fractions : List (List (Option ℕ))) (readers : ℕ) : Type 0 where
  pub each : (at : ℕ) → at < length values → length (slice_index_or fractions at []) ≡ readers
  pub empty : (at : ℕ) → slice_index_or values at None ≡ None → IsUnlent fractions at

-- What is lent of the values of a space, and to whom
use Rattle.std.specs.Prelude.{ℕ, List, Option}
use Rattle.sdd_values.specs.ReadSections.{ReadSections}

pub record Loans : Type 0 where
  -- of each value, for each reader, the section that it is lent to
  pub fractions : List (List (Option ℕ))
  -- what is kept of the readers' sections
  pub sections : ReadSections

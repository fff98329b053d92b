-- What a seat of an `atomic_table` carries, as contents.
use Rattle.std.specs.Prelude.{◌≡◌, ℕ, List, [], ◌∷◌}
use Rattle.sdd_shared_values.specs.ValueFractions.{FractionContent, settled, AllFreeFor}
use Rattle.sdd_shared_values.specs.declared.value_fraction.ValueFraction.{ValueFraction}

-- the contents of the fractions that a seat has
abbrev pub contents : List (ℕ × ValueFraction) → List FractionContent
contents [] = []
contents (x ∷ xs) = x.1.content ∷ contents xs

abbrev pub relotted : ValueFraction → FractionContent → ValueFraction
relotted s l = record s { content = l }

-- the same slots with these contents
abbrev pub with_contents : List (ℕ × ValueFraction) → List FractionContent → List (ℕ × ValueFraction)
with_contents [] ls = []
with_contents (x ∷ xs) [] = x ∷ xs
with_contents (x ∷ xs) (l ∷ ls) = (x.0, relotted x.1 l) ∷ with_contents xs ls

-- what a seat carries, once all that is lent has come back
abbrev pub plain : List (ℕ × ValueFraction) → List (ℕ × ValueFraction)
plain xs = with_contents xs (settled (contents xs))

-- as before, but for what is lent to the section t
abbrev pub OnlyLends : ℕ → List (ℕ × ValueFraction) → List (ℕ × ValueFraction) → Type 0
OnlyLends t xs ys = (plain ys ≡ plain xs) × (AllFreeFor t (contents xs) → AllFreeFor t (contents ys))

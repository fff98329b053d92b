-- The words of cells that hold owners
use Rattle.std.specs.Prelude.{ℕ, List, [], ◌∷◌, Option, Some, None}

-- what there is, if there is any
abbrev pub listed : Option ℕ → List ℕ
listed None = []
listed (Some slot) = slot ∷ []

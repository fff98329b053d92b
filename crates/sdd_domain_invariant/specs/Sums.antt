-- Numbers added up, over what participants know and over words
use Rattle.std.specs.Prelude.{ℕ, zero, suc, ◌+◌, List, [], ◌∷◌, slice_index, eqb}
use prog.Atomic.{either}

-- f of each of them
abbrev pub total : {X : Type 0} → (X → ℕ) → List X → ℕ
total f [] = 0
total f (x ∷ xs) = f x + total f xs

-- f of each of the n words from the word b on
abbrev pub span : (ℕ → ℕ) → List ℕ → ℕ → ℕ → ℕ
span f ws b zero = 0
span f ws b (suc n) = f (slice_index ws (b + n)) + span f ws b n

-- 1 where they are equal, else 0
abbrev pub is : ℕ → ℕ → ℕ
is i j = either (eqb j i) 1 0

-- how often i is in a list
abbrev pub times : ℕ → List ℕ → ℕ
times i = total (is i)

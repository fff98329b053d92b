-- What a bank has, as one deposit a number
use Rattle.std.specs.Prelude.{◌≡◌, ℕ, ◌+◌, ◌<◌, None, List, [], ◌∷◌, eqb}
use prog.Atomic.{either}
use Rattle.sdd_shared_values.specs.ValueFractions.{FractionContent}

abbrev pub of_number : ℕ → FractionContent → ℕ
of_number i h = either (eqb h.number i) h.units 0

-- the units of the number i
abbrev pub units_at : ℕ → List FractionContent → ℕ
units_at i [] = 0
units_at i (h ∷ hs) = of_number i h + units_at i hs

-- each deposit is of the ghost map and isn't lent, and no number has two
abbrev pub AreDeposits : ℕ → List FractionContent → Type 0
AreDeposits γ [] = Unit {0}
AreDeposits γ (h ∷ hs) = (h.gamma ≡ γ) × (h.lent ≡ None) × (0 < h.units) × (units_at h.number hs ≡ 0) × AreDeposits γ hs

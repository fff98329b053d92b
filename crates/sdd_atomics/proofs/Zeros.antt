-- A list of zeros
use Rattle.std.proofs.Common.{◌≡◌, ℕ, get_or, replicate, arith}
use Rattle.std.proofs.lemmas.List.{get_or-replicate, get_or_past, length-replicate}
use mathlib.Core.Logic.{dite}
use native.Mathlib.Decide.{dec_lt}

pub zeros : (n i : ℕ) → get_or {A = ℕ} (replicate n 0) i 0 ≡ 0
zeros n i = dite (dec_lt i n) (λ low. get_or-replicate {A = ℕ} n i 0 0 low)
    (λ high. get_or_past (replicate n 0) i 0 (omega (arith, length-replicate {A = ℕ} n 0)))

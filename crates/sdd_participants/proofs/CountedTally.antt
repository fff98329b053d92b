-- A number in two words: one more writes the low word alone, where that isn't full
use Rattle.std.proofs.Common.{◌≡◌, ℕ, ◌+◌, ◌-◌, ◌*◌, ◌%◌, ◌^◌, ◌<◌, min, arith}

-- the low word doesn't wrap round
below : (low : ℕ) → low < 2 ^ 64 → ((low + 1) % 2 ^ 64 ≡ 0 → ⊥) → (low + 1) % 2 ^ 64 ≡ low + 1
below low small some = omega (arith, small, some)

-- and then the number is one more
pub counted : (low high : ℕ) → low < 2 ^ 64 → high < 2 ^ 64 → ((low + 1) % 2 ^ 64 ≡ 0 → ⊥) →
    high * 2 ^ 64 + (low + 1) % 2 ^ 64 ≡ min (high * 2 ^ 64 + low + 1) (2 ^ 128 - 1)
counted low high small great some = omega (arith, below low small some, small, great)

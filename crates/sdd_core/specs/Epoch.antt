-- Epochs: counts as they are shown, modulo 64
use Rattle.std.specs.Prelude.{ℕ, zero, suc, ◌+◌, ◌%◌, ◌==◌, nat_lt, if◌then◌else◌, Bool, ◌||◌, Result, Ok, Err}

-- the epoch that shows a count
abbrev pub epoch_of : ℕ → ℕ
epoch_of count = count % 64

-- the epoch of the next count
abbrev pub epoch_after : ℕ → ℕ
epoch_after epoch = (epoch + 1) % 64

-- the epoch of the count before
abbrev pub epoch_before : ℕ → ℕ
epoch_before epoch = (epoch + 63) % 64

-- the epoch so many counts later
unfoldable pub epoch_later : ℕ → ℕ → ℕ
epoch_later zero epoch = epoch
epoch_later (suc counts) epoch = epoch_after (epoch_later counts epoch)

-- the epoch with this number, or else the one that the number shows as a count
abbrev pub epoch_numbered : ℕ → Result ℕ ℕ
epoch_numbered number = if nat_lt number 64 then Ok number else Err (epoch_of number)

-- b is a, or the epoch after a, or the one after that
abbrev pub same_generation : ℕ → ℕ → Bool
same_generation a b = b == a || b == epoch_after a || b == epoch_after (epoch_after a)

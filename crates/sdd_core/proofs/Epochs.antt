use Rattle.std.proofs.Common.{◌≡◌, ℕ, zero, suc, ◌+◌, ◌%◌, ◌<◌, arith, ◌∙◌}
use Rattle.sdd_core.specs.Epoch.{epoch_later}

-- so many counts later the number has grown by so many, modulo 64
pub epoch_later_lem : (k e : ℕ) → e < 64 → epoch_later k e ≡ (e + k) % 64
unfolding epoch_later
epoch_later_lem zero e small = omega arith
epoch_later_lem (suc k) e small = let before : epoch_later k e ≡ (e + k) % 64 = epoch_later_lem k e small in rw before (omega arith)

-- after all 64 epochs the first comes again
pub epoch_later-64 : (e : ℕ) → e < 64 → epoch_later 64 e ≡ e
epoch_later-64 e small = epoch_later_lem 64 e small ∙ omega arith

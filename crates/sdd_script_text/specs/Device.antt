-- Bytes that are read and written, and how often a device failed
use Rattle.std.specs.Prelude.{◌≡◌, ℕ, ◌+◌, ◌%◌, ◌^◌, List, take, Option, Result, MatchResult}
use Rattle.std.specs.Io.KnownBytes.{Appends, Consumes}
use Rattle.sdd_script_text.specs.declared.device.ReadEnd.{ReadEnd}
use Rattle.sdd_script_text.specs.declared.device.ReadEnd.TheVariants.{NoMemory, Fault}

-- one more failure: they are counted modulo 2 ^ 64, so this is never the count before
abbrev pub one_more : ℕ → ℕ
one_more failures = (failures + 1) % 2 ^ 64

-- an `Err` is one failure of the device, and an `Ok` is none
abbrev pub CountsFailure : {A E : Type 0} → ℕ → ℕ → Result A E → Type 0
CountsFailure old new result = MatchResult result (λ _. new ≡ old) (λ _. new ≡ one_more old)

-- the device failed once where that ended a read, and not where memory did
abbrev pub CountsEnd : ℕ → ℕ → ReadEnd → Type 0
CountsEnd old new NoMemory = new ≡ old
CountsEnd old new Fault = new ≡ one_more old

-- some of the bytes were read
abbrev pub ConsumesSome : Option (List ℕ) → Option (List ℕ) → Type 0
ConsumesSome old new = (bytes : List ℕ) × Consumes old new bytes

-- a beginning of the bytes was written
abbrev pub AppendsBeginning : Option (List ℕ) → Option (List ℕ) → List ℕ → Type 0
AppendsBeginning old new bytes = (n : ℕ) × Appends old new (take n bytes)

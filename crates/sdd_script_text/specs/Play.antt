-- What a play reads and writes, by what is to be written for a text
use Rattle.std.specs.Prelude.{◌≡◌, ℕ, List, Option}
use Rattle.std.specs.Io.KnownBytes.{Consumes, IsAtEnd, Appends}
use Rattle.sdd_script_text.specs.Device.{one_more, ConsumesSome, AppendsBeginning}
use Rattle.sdd_script_text.specs.declared.ended.Ended.{Ended}
use Rattle.sdd_script_text.specs.declared.ended.Ended.TheVariants.{Played, NotACall, NotAStep, LimitsOutOfRange, CannotRead, CannotWrite, NoMemory}

-- all the bytes that were left were read, and these are they
pub record ReadsAll (old new : Option (List ℕ)) (text : List ℕ) : Type 0 where
  pub read : Consumes old new text
  pub ended : IsAtEnd new

-- `Prints text printed ended`: this is to be written for a text, and its play ends so once that is done.

-- all is read, and what is to be written for it is written
pub record Writes (Prints : List ℕ → List ℕ → Ended → Type 0) (left left' written written' : Option (List ℕ)) (ended : Ended) : Type 0 where
  pub text : List ℕ
  pub printed : List ℕ
  pub reads : ReadsAll left left' text
  pub prints : Prints text printed ended
  pub writes : Appends written written' printed

-- all is read, and a beginning of what is to be written for it is written
pub record WritesBeginning (Prints : List ℕ → List ℕ → Ended → Type 0) (left left' written written' : Option (List ℕ)) : Type 0 where
  pub text : List ℕ
  pub printed : List ℕ
  pub whole : Ended
  pub reads : ReadsAll left left' text
  pub prints : Prints text printed whole
  pub writes : AppendsBeginning written written' printed

-- what a play read of the bytes that were left, and wrote behind those that were written, by its end
abbrev pub Plays : (List ℕ → List ℕ → Ended → Type 0) → (left left' written written' : Option (List ℕ)) → Ended → Type 0
Plays Prints left left' written written' Played = Writes Prints left left' written written' Played
Plays Prints left left' written written' (NotACall n) = Writes Prints left left' written written' (NotACall n)
Plays Prints left left' written written' (NotAStep n) = Writes Prints left left' written written' (NotAStep n)
Plays Prints left left' written written' CannotWrite = WritesBeginning Prints left left' written written'
Plays Prints left left' written written' CannotRead = ConsumesSome left left'
Plays Prints left left' written written' NoMemory = ConsumesSome left left'
Plays Prints left left' written written' LimitsOutOfRange = left' ≡ left

-- a play ends so before it writes
abbrev pub IsSilent : Ended → Type 0
IsSilent CannotRead = Unit {0}
IsSilent NoMemory = Unit {0}
IsSilent LimitsOutOfRange = Unit {0}
IsSilent other = ⊥

-- the reader's count of failures: one more where the play ended with that, and else as before
abbrev pub read_failures : Ended → ℕ → ℕ
read_failures CannotRead failures = one_more failures
read_failures other failures = failures

-- the writer's count of failures: one more where the play ended with that, and else as before
abbrev pub write_failures : Ended → ℕ → ℕ
write_failures CannotWrite failures = one_more failures
write_failures other failures = failures

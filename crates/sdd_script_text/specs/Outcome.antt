-- What the program prints itself, and the status that it ends with
use Rattle.std.specs.Prelude.{ℕ, Bool, true, false, List, Option, Some, None, codes}
use Rattle.std.specs.declared.io.ErrorKind.{ErrorKind}
use Rattle.std.specs.declared.io.ErrorKind.TheVariants.{InvalidData}
use Rattle.sdd_script_text.specs.declared.ended.Ended.TheVariants.{Played, NotACall, NotAStep, LimitsOutOfRange, CannotRead, CannotWrite, NoMemory}
use Rattle.sdd_script_text.specs.declared.outcome.Outcome.{Outcome}
use Rattle.sdd_script_text.specs.declared.outcome.Outcome.TheVariants.{Usage, Play}

-- where the arguments can't be had, for this reason: one may be no text
abbrev pub without_arguments_of : ErrorKind → Outcome
without_arguments_of InvalidData = Usage
without_arguments_of kind = Play NoMemory

-- the line on standard output
abbrev pub line_of : Outcome → Option (List ℕ)
line_of Usage = Some (codes "usage: sdd-run [steps | participants slots cells jobs nesting tries]")
line_of (Play LimitsOutOfRange) = Some (codes "limits out of range")
line_of (Play ended) = None

-- a line that can't be printed there
abbrev pub after_printing_of : Outcome → Bool → Outcome
after_printing_of outcome true = outcome
after_printing_of outcome false = Play CannotWrite

-- the line on standard error
abbrev pub failure_of : Outcome → Option (List ℕ)
failure_of (Play CannotRead) = Some (codes "cannot read")
failure_of (Play CannotWrite) = Some (codes "cannot write")
failure_of (Play NoMemory) = Some (codes "no memory")
failure_of outcome = None

abbrev pub status_of : Outcome → ℕ
status_of Usage = 2
status_of (Play Played) = 0
status_of (Play (NotACall n)) = 2
status_of (Play (NotAStep n)) = 2
status_of (Play LimitsOutOfRange) = 2
status_of (Play CannotRead) = 1
status_of (Play CannotWrite) = 1
status_of (Play NoMemory) = 1

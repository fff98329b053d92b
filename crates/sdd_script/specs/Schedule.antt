-- Schedules: the steps that are the lines of a text, and what each of them is answered
use Rattle.std.specs.Prelude.{◌≡◌, ◌≢◌, ℕ, List, ◌∷◌, ◌++◌, length, IsSomeAnd}
use Rattle.std.specs.List.{slice_get}
use Rattle.sdd_script_text.specs.Script.{AreLines, IsFirstOther}
use Rattle.sdd_machine.specs.declared.machine.steps.Step.{Step}
use Rattle.sdd_machine.specs.declared.machine.steps.Step.TheVariants.{Publish}
use Rattle.sdd_machine.specs.declared.machine.steps.Did.{Did}
use Rattle.sdd_machine.specs.declared.machine.steps.Did.TheVariants.{NotPossible}
use Rattle.sdd_machine.specs.Table.{Size, did}
use Rattle.sdd_machine.specs.Sizes.{size_for}
use Rattle.sdd_machine.specs.History.{state, history, Tells}
use Rattle.sdd_script.specs.ScheduleLine.{line_of, HasNumbers}
use Rattle.sdd_script.specs.declared.schedules.schedule.Schedule.{Schedule}
use Rattle.sdd_script.specs.declared.schedules.schedule.Schedule.TheVariants.{Steps, Fault}

-- the lines are steps, and these are they
abbrev pub AreSteps : List ℕ → List Step → Type 0
AreSteps text steps = AreLines line_of HasNumbers text steps

-- line n is the first that is no step
abbrev pub IsFirstFault : List ℕ → ℕ → Type 0
IsFirstFault text n = IsFirstOther line_of HasNumbers text n

-- a text is this schedule
abbrev pub IsSchedule : List ℕ → Schedule → Type 0
IsSchedule text (Steps steps) = AreSteps text steps.items
IsSchedule text (Fault n) = IsFirstFault text n

-- a schedule is these steps
abbrev pub IsSteps : List Step → Schedule → Type 0
IsSteps steps (Steps read) = read.items ≡ steps
IsSteps steps (Fault n) = ⊥

-- A step is answered at a moment what it does then. A publish that is possible tells the count that its place read last, whether that makes it a
-- change, and how many items are due at it.
pub record Answers (size : Size) (past : List Step) (step : Step) (answer : Did) : Type 0 where
  pub does : answer ≡ did (state size past) step
  pub tells : (place : ℕ) → step ≡ Publish place → answer ≢ NotPossible → Tells size place past

-- each step is answered at the moment to which those before it lead, in a machine as large as all of them need
pub record AreAnswers (steps : List Step) (answers : List Did) : Type 0 where
  pub as_many : length answers ≡ length steps
  pub each : (before after : List Step) (step : Step) → before ++ step ∷ after ≡ steps →
      let size = size_for steps in IsSomeAnd (slice_get answers (length before)) (Answers size (history size before) step)

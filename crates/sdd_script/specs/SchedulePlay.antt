-- The play of a schedule: what is to be written for what is read
use Rattle.std.specs.Prelude.{◌≡◌, ℕ, List}
use Rattle.sdd_script_text.specs.declared.ended.Ended.{Ended}
use Rattle.sdd_script_text.specs.declared.ended.Ended.TheVariants.{Played, NotAStep}
use Rattle.sdd_machine.specs.declared.machine.steps.Step.{Step}
use Rattle.sdd_machine.specs.declared.machine.steps.Did.{Did}
use Rattle.sdd_machine.specs.History.{Safe, Exact}
use Rattle.sdd_machine.specs.Laws.{AtEachMoment}
use Rattle.sdd_script.specs.ScheduleAnswer.{text_of_all, text_of_fault}
use Rattle.sdd_script.specs.Schedule.{AreSteps, IsFirstFault, AreAnswers}

-- The lines of a text are steps, and these are the lines of their answers. After each of them the history is safe and exact.
pub record PrintsAnswers (text printed : List ℕ) : Type 0 where
  pub steps : List Step
  pub answers : List Did
  pub lines : AreSteps text steps
  pub answered : AreAnswers steps answers
  pub safe : AtEachMoment steps Safe
  pub exact : AtEachMoment steps Exact
  pub print : printed ≡ text_of_all answers

-- line n is the first of a text that is no step, and this tells so
pub record PrintsFault (n : ℕ) (text printed : List ℕ) : Type 0 where
  pub first : IsFirstFault text n
  pub print : printed ≡ text_of_fault n

-- what is to be written for a text, and how its play ends once that is done
abbrev pub Prints : (text printed : List ℕ) → Ended → Type 0
Prints text printed Played = PrintsAnswers text printed
Prints text printed (NotAStep n) = PrintsFault n text printed
Prints text printed other = ⊥

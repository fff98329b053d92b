-- The play of a script: what is to be written for what is read
use Rattle.std.specs.Prelude.{◌≡◌, ℕ, List}
use Rattle.sdd_core.specs.declared.limits.Limits.{Limits}
use Rattle.sdd_script_text.specs.Answer.{text_of_all, text_of_fault}
use Rattle.sdd_script_text.specs.Script.{AreCalls, IsFirstFault}
use Rattle.sdd_script_text.specs.declared.call.Call.{Call}
use Rattle.sdd_script_text.specs.declared.answer.Answer.{Answer}
use Rattle.sdd_script_text.specs.declared.ended.Ended.{Ended}
use Rattle.sdd_script_text.specs.declared.ended.Ended.TheVariants.{Played, NotACall}
use Rattle.sdd_script_model.specs.ScriptState.{ScriptState}
use Rattle.sdd_script_model.specs.Script.{IsRun}

-- calls on a new world within these limits are answered so
abbrev pub AreAnswers : Limits → List Call → List Answer → Type 0
AreAnswers limits calls answers = (scene : ScriptState) × IsRun limits calls answers scene

-- the lines of a text are calls, and these are the lines of their answers
pub record PrintsAnswers (limits : Limits) (text printed : List ℕ) : Type 0 where
  pub calls : List Call
  pub answers : List Answer
  pub lines : AreCalls text calls
  pub answered : AreAnswers limits calls answers
  pub print : printed ≡ text_of_all answers

-- line n is the first of a text that is no call, and this tells so
pub record PrintsFault (n : ℕ) (text printed : List ℕ) : Type 0 where
  pub first : IsFirstFault text n
  pub print : printed ≡ text_of_fault n

-- what is to be written for a text, and how its play ends once that is done
abbrev pub Prints : Limits → (text printed : List ℕ) → Ended → Type 0
Prints limits text printed Played = PrintsAnswers limits text printed
Prints limits text printed (NotACall n) = PrintsFault n text printed
Prints limits text printed other = ⊥

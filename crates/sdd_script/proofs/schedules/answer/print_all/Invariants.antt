use Rattle.sdd_script.proofs.Words.{string_bytes, take, ◌≡◌}
use Rattle.sdd_script.specs.ScheduleAnswer.{text_of_all}
use Rattle.sdd_script.proofs.schedules.answer.print_all.Given as goal

abbrev pub invariant-loop-answer : goal.invariant-loop-answer
invariant-loop-answer l = string_bytes l.text ≡ text_of_all (take l.answer-index l.answers)

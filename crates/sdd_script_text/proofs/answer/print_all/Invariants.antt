use Rattle.sdd_script_text.proofs.Words.{◌≡◌, string_bytes, take, text_of_all}
use Rattle.sdd_script_text.proofs.answer.print_all.Given as goal

abbrev pub invariant-loop-answer : goal.invariant-loop-answer
invariant-loop-answer l = string_bytes l.text ≡ text_of_all (take l.answer-index l.answers)

use Rattle.sdd_script.proofs.Words.{append_assoc}
use Rattle.sdd_script.proofs.schedules.answer.push_answer.Goals as goal

pub returns-in-Opened : goal.returns-in-Opened
returns-in-Opened c = rw c.in-Opened.is (simp append_assoc (rw c.found.ensures at c.write.ensures.bytes))

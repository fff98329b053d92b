use Rattle.sdd_interpreter.proofs.NotedOpenings.{renoted}
use Rattle.sdd_interpreter.proofs.participants.note_opening.Goals as goal

pub returns-in-Some : goal.returns-in-Some
returns-in-Some c = rw c.if-is_nested.false (renoted _ _ _ _ _ c.requires c.in-Some.is c.index_mut.ensures.value)

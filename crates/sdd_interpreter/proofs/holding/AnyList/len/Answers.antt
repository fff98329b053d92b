use Rattle.sdd_interpreter.proofs.holding.AnyList.len.Goals as goal

pub returns-in-Queue-clause-list : goal.returns-in-Queue-clause-list
returns-in-Queue-clause-list g c exact es second list = c.len.ensures.list exact es second (rw c.in-Queue.is at list)

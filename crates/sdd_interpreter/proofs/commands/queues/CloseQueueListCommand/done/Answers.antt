use Rattle.sdd_interpreter.proofs.commands.queues.CloseQueueListCommand.done.Goals as goal

pub returns-clause-done : goal.returns-clause-done
returns-clause-done g c es second queue = c.close.ensures.list c.requires.exact es second queue

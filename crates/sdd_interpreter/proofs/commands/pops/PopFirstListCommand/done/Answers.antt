use Rattle.sdd_interpreter.proofs.PopAnswers.{pops-newest, pops-oldest}
use Rattle.sdd_interpreter.proofs.commands.pops.PopFirstListCommand.done.Goals as goal

pub returns-in-Queue-clause-done : goal.returns-in-Queue-clause-done
returns-in-Queue-clause-done g c es second list =
    let has = rw c.in-Queue.is at list in
    rw c.in-Queue.is (pops-oldest _ _ _ c.in-Queue.queue es second _ _ c.pop.ensures.owner (c.pop.ensures.list c.requires.exact es second has))

pub returns-in-Stack-clause-done : goal.returns-in-Stack-clause-done
returns-in-Stack-clause-done g c es second list =
    let did = c.pop-in-Stack.ensures in
    let has = rw c.in-Stack.is at list in
    rw c.in-Stack.is (pops-newest _ _ _ c.in-Stack.stack es second _ _ did.owner (did.list c.requires.exact es has))

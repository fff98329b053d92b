use Rattle.sdd_interpreter.proofs.AskedEntries.{wants-entry}
use Rattle.sdd_interpreter.proofs.commands.pushes.PushNumberListCommand.done.Goals as goal

pub returns-in-Ok-clause-done : goal.returns-in-Ok-clause-done
returns-in-Ok-clause-done g c es second list =
    let made = c.in-Ok.ensures.list c.requires.exact es second (rw c.in-Queue.is at list) in
    rw c.in-Queue.is (c.in-Ok.ensures.owner, record { entry = made.entry; body = made.value; free = made.link; pushed = made.queue })

pub returns-in-Ok-push-clause-done : goal.returns-in-Ok-push-clause-done
returns-in-Ok-push-clause-done g c es second list =
    let made = c.in-Ok-push.ensures.list c.requires.exact es (rw c.in-Stack.is at list) in
    rw c.in-Stack.is (c.in-Ok-push.ensures.owner, record { entry = made.entry; body = made.value; free = made.link; pushed = made.list })

pub returns-in-Err-clause-done : goal.returns-in-Err-clause-done
returns-in-Err-clause-done g c es second list =
    let refused = c.in-Err.ensures.refused c.requires.exact es second (rw c.in-Queue.is at list) in
    (rw c.refusal_of.ensures (wants-entry (g.S.Caller.world c.args.s.now) c.in-Err.back.1 refused.1), refused.0)

use Rattle.sdd_interpreter.proofs.Words.{Option, Some, sym, subst, Err, Refused, PushesIf, AnyList}
use Rattle.sdd_interpreter.specs.declared.holding.AnyList.TheVariants as any
use Rattle.sdd_interpreter.proofs.AskedEntries.{push-held, pushes-not}
use Rattle.sdd_interpreter.proofs.commands.pushes.PushNumberIfListCommand.done.Goals as goal

pub returns-in-Ok-clause-done : goal.returns-in-Ok-clause-done
returns-in-Ok-clause-done g c es second list =
    let has = rw c.in-Queue.is at list in
    let asked = c.in-Ok.ensures.asked c.requires.exact es second has in
    let made = c.in-Ok.ensures.list c.requires.exact es second has in
    rw c.in-Queue.is (
      push-held c.args.self.newest _ _ asked.1 asked.2.1.1.0,
      (c.in-Ok.ensures.owner, record { entry = made.entry; body = made.value; free = made.link; pushed = made.queue }),
    )

pub returns-in-Ok-push_if-clause-done : goal.returns-in-Ok-push_if-clause-done
returns-in-Ok-push_if-clause-done g c es second list =
    let has = rw c.in-Stack.is at list in
    let asked = c.in-Ok-push_if.ensures.asked c.requires.exact es has in
    let made = c.in-Ok-push_if.ensures.list c.requires.exact es has in
    rw c.in-Stack.is (
      push-held c.args.self.newest _ _ asked.1 asked.2.1.1.0,
      (c.in-Ok-push_if.ensures.owner, record { entry = made.entry; body = made.value; free = made.link; pushed = made.list }),
    )

pub returns-in-Err-clause-done : goal.returns-in-Err-clause-done
returns-in-Err-clause-done g c es second list =
    let has = rw c.in-Queue.is at list in
    let asked = c.in-Err.ensures.asked c.requires.exact es second has in
    let refused = c.in-Err.ensures.refused c.requires.exact es second has in
    let number = c.args.self.number in
    let newest = c.args.self.newest in
    let w = g.S.Caller.world c.args.s.now in
    let new = g.S.Caller.world c.push_if.new.s in
    let caller = g.S.Caller.caller c.args.s.now in
    let did = pushes-not caller.home.slots w new caller.place c.in-Queue.queue es second number newest c.in-Err.back.1 refused.0 refused.1 _ asked.1
    asked.2.1.1.0 in
    subst (λ (x : AnyList). PushesIf caller.home.slots w caller.place x es second number (Some newest) (Err c.refusal_of.result) new) (sym c.in-Queue.is)
    (subst (λ (why : Option Refused). PushesIf caller.home.slots w caller.place (any.Queue c.in-Queue.queue) es second number (Some newest) (Err why) new)
    (sym c.refusal_of.ensures) did)

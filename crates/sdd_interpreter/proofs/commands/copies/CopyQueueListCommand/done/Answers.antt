use Rattle.sdd_interpreter.proofs.Words.{List, inl, ap, ◌∙◌, subst, sym, CallerId, IsExact, Entry, cells_in, queue_closed, AreNumbers, Val, link_of, same-list}
use Rattle.sdd_interpreter.proofs.Copies.{queue-cloned, queue-uncloned}
use Rattle.sdd_interpreter.proofs.commands.copies.CopyQueueListCommand.done.Goals as goal

pub returns-in-Ok-clause-done : goal.returns-in-Ok-clause-done
returns-in-Ok-clause-done g c = (
  c.in-Ok.ensures.home,
  (λ es second is.
      queue-cloned (g.S.Caller.caller c.args.s.now).place (g.S.Caller.world c.args.s.now) (g.S.Caller.world c.clone.new.s) es
      (cells_in c.args.self.queue.now) (cells_in c.in-Ok.copy) second (c.in-Ok.ensures.list c.requires.exact es second is)),
)

pub returns-in-Err-Part-clause-done : goal.returns-in-Err-Part-clause-done
returns-in-Err-Part-clause-done g c = (
  tt,
  (λ es second is.
      let w = g.S.Caller.world c.args.s.now in
      let mid = g.S.Caller.world c.clone.new.s in
      let place = (g.S.Caller.caller c.args.s.now).place in
      let caller = c.in-Err-Part.ensures.unmoved.caller in
      let exact = subst (λ (s : CallerId). IsExact s) (sym caller) c.requires.exact in
      let asked = c.requires.asked.2 in
      let numbers = subst (λ (fs : List (Entry Val)). AreNumbers fs)
      (same-list w (cells_in c.args.self.queue.now).oldest asked.0 es asked.2.list is.list) asked.3 in
      let part = rw c.in-Err-Part.field-0-is at (c.in-Err-Part.ensures.list c.requires.exact es second is) in
      let built = part.3 in
      let closed = c.close.ensures.list exact built.entries built.held built.fills.queue in
      queue-uncloned place w mid es (cells_in c.args.self.queue.now) (cells_in c.in-Err-Part.part) second part.1 part.2 c.in-Err-Part.refused
      (g.S.Caller.world c.close.new.s) numbers built part.4
      (closed ∙ ap (λ (s : CallerId). queue_closed link_of mid s.place (cells_in c.in-Err-Part.part) built.entries built.held) caller)),
)

pub ends_none-requires : goal.ends_none-requires
ends_none-requires g c =
    let asked = c.requires.asked.2 in
    (rw c.in-Err-Part.field-0-is at (c.in-Err-Part.ensures.list c.requires.exact asked.0 asked.1 asked.2)).0

pub returns-in-Err-NotBegun-clause-done : goal.returns-in-Err-NotBegun-clause-done
returns-in-Err-NotBegun-clause-done g c = (
  tt,
  (λ es second is. inl (rw c.in-Err-NotBegun.field-0-is at (c.in-Err-NotBegun.ensures.list c.requires.exact es second is))),
)

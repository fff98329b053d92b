use Rattle.sdd_interpreter.proofs.Words.{List, ap, ◌∙◌, subst, sym, CallerId, IsExact, Entry, cell_in, AreNumbers, stack_closed, Val, same-list}
use Rattle.sdd_interpreter.proofs.Copies.{stack-cloned, stack-uncloned}
use Rattle.sdd_interpreter.proofs.commands.copies.CopyStackListCommand.done.Goals as goal

pub returns-in-Ok-clause-done : goal.returns-in-Ok-clause-done
returns-in-Ok-clause-done g c = (
  c.in-Ok.ensures.home,
  (λ es is.
      stack-cloned (g.S.Caller.caller c.args.s.now).place (g.S.Caller.world c.args.s.now) (g.S.Caller.world c.clone.new.s) es
      (cell_in c.args.self.stack.now) (cell_in c.in-Ok.copy) (c.in-Ok.ensures.list c.requires.exact es is)),
)

pub returns-in-Err-Part-clause-done : goal.returns-in-Err-Part-clause-done
returns-in-Err-Part-clause-done g c = (
  tt,
  (λ es is.
      let w = g.S.Caller.world c.args.s.now in
      let mid = g.S.Caller.world c.clone.new.s in
      let place = (g.S.Caller.caller c.args.s.now).place in
      let caller = c.in-Err-Part.ensures.unmoved.caller in
      let exact = subst (λ (s : CallerId). IsExact s) (sym caller) c.requires.exact in
      let asked = c.requires.asked.2 in
      let numbers = subst (λ (fs : List (Entry Val)). AreNumbers fs) (same-list w (cell_in c.args.self.stack.now) asked.0 es asked.1 is) asked.2 in
      let part = rw c.in-Err-Part.field-0-is at (c.in-Err-Part.ensures.list c.requires.exact es is) in
      let built = part.3 in
      let closed = c.close.ensures.list exact built.entries built.fills.list in
      stack-uncloned place w mid es (cell_in c.args.self.stack.now) (cell_in c.in-Err-Part.part) part.1 part.2 c.in-Err-Part.refused
      (g.S.Caller.world c.close.new.s) numbers built part.4
      (closed ∙ ap (λ (s : CallerId). stack_closed mid s.place (cell_in c.in-Err-Part.part) built.entries) caller)),
)

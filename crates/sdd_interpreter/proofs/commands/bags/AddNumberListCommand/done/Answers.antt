use Rattle.sdd_interpreter.proofs.Bags.{puts-number}
use Rattle.sdd_interpreter.proofs.commands.bags.AddNumberListCommand.done.Goals as goal

pub returns-in-Ok-clause-done : goal.returns-in-Ok-clause-done
returns-in-Ok-clause-done g c = (
  c.in-Ok.ensures.bag,
  puts-number (g.S.Caller.world c.args.s.now) (g.S.Caller.world c.push.new.s) (g.S.Caller.caller c.args.s.now).place c.args.self.bag c.push.new.self
      c.in-Ok.ensures.cells c.requires.asked.2 c.in-Ok.ensures.bag c.args.self.number c.in-Ok.ensures.pushed c.in-Ok.ensures.list,
)

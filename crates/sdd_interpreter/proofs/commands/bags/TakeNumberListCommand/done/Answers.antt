use Rattle.sdd_interpreter.proofs.Bags.{takes-some}
use Rattle.sdd_interpreter.proofs.commands.bags.TakeNumberListCommand.done.Goals as goal

pub returns-clause-done : goal.returns-clause-done
returns-clause-done g c =
    let did = c.pop-taken.ensures in (
      did.bag,
      takes-some (g.S.Caller.world c.args.s.now) (g.S.Caller.world c.pop-taken.new.s) (g.S.Caller.caller c.args.s.now).place c.args.self.bag
          c.pop-taken.new.self did.cells c.requires.asked.2 did.bag c.pop-taken.result did.popped did.list,
    )

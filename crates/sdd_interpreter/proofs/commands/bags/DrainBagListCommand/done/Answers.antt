use Rattle.sdd_interpreter.proofs.Words.{rules, values_of}
use Rattle.sdd_interpreter.proofs.Bags.{all-behind, drained-order, drained-room, takes-all}
use Rattle.sdd_interpreter.proofs.commands.bags.DrainBagListCommand.done.Goals as goal

pub returns-clause-done : goal.returns-clause-done
returns-clause-done g c =
    let did = c.pop_all-numbers.ensures in
    let room = c.args.self.room in
    let all = c.pop_all-numbers.result in
    let (_, _, is, none, few) = c.requires.asked in
    let (numbers, order, folds) = did.folded in
    let made = all-behind _ (λ f made number next then called. search rules) _ room numbers all folds
    (drained-room room numbers (values_of c.args.self.bag) order none few) in (
      did.bag,
      takes-all (g.S.Caller.world c.args.s.now) (g.S.Caller.world c.pop_all-numbers.new.s) (g.S.Caller.caller c.args.s.now).place c.args.self.bag
          c.pop_all-numbers.new.self did.cells is did.bag all.items did.empty
          (drained-order room all numbers (values_of c.args.self.bag) order made none) did.list,
    )

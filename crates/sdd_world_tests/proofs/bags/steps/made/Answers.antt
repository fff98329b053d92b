use Rattle.std.proofs.Common.{sym, subst}
use Rattle.sdd_space.specs.CallerId.{CallerId}
use Rattle.sdd_bag.specs.Bag.{IsOfCells}
use Rattle.sdd_world_tests.proofs.bags.steps.made.Goals as goal

pub returns-clause-there : goal.returns-clause-there
returns-clause-there g c =
    let home = rw c.expect.ensures at c.new.ensures.home in
    record {
      home = subst (λ (s : CallerId). IsOfCells s.home.cells c.expect.result) (sym c.new.ensures.unmoved.caller) home;
      lies = rw c.expect.ensures at (c.new.ensures.bag c.requires.may.exact);
    }

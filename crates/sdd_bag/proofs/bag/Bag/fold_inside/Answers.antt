use Rattle.std.proofs.Common.{◌++◌, subst}
use Rattle.sdd_bag.specs.Values.{AreInSomeOrder}
use Rattle.sdd_bag.specs.Bag.{BagParts, primary_of}
use Rattle.sdd_bag.proofs.bag.Bag.fold_inside.Goals as goal

pub returns-clause-folded : goal.returns-clause-folded
returns-clause-folded g c = λ others vs result order folded.
    let got = c.fold_all.ensures.folded others vs result order folded in (
      got.0,
      subst (λ (b : BagParts g.row.T.Denot g.row.B.Denot). AreInSomeOrder got.0 (others ++ primary_of b)) c.self.view_is got.1,
      got.2,
    )

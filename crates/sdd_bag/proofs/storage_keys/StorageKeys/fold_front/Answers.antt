use Rattle.std.proofs.Common.{List, ◌++◌, subst}
use Rattle.sdd_bag.specs.Storage.{KeptPlace, values_in}
use Rattle.sdd_bag.specs.Values.{AreInSomeOrder}
use Rattle.sdd_bag.proofs.storage_keys.StorageKeys.fold_front.Goals as goal

pub returns-clause-folded : goal.returns-clause-folded
returns-clause-folded g c = λ others vs result order folded.
    let got = c.fold_out-done.ensures.folded others vs result order folded in (
      got.0,
      subst (λ (ps : List (KeptPlace g.row.T.Denot)). AreInSomeOrder got.0 (others ++ values_in ps)) c.self.view_is got.1,
      got.2,
    )

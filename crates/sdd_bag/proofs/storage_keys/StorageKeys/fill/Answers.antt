use Rattle.std.proofs.Common.{◌+◌, List, map, sym, subst}
use Rattle.sdd_bag.specs.Lent.{IsGap}
use Rattle.sdd_bag.specs.Storage.{AreCounted, KeptPlace, kept_place}
use Rattle.sdd_bag.proofs.LentValues.{filled-counted}
use Rattle.sdd_bag.proofs.storage_keys.StorageKeys.fill.Goals as goal

pub invariant_of-self : goal.invariant_of-self
invariant_of-self g c =
    let Places : Type 0 = List (KeptPlace g.row.T.Denot) in let ps : Places = map kept_place c.self.inside.keys.kept in
    let len = g.row.LEN in let gap = c.args.gap in
    subst (λ (qs : Places). AreCounted len (gap + 1) c.self.inside.arrays qs) (sym c.exchange.ensures.now)
    (filled-counted len c.self.inside.count c.self.inside.arrays gap ps c.args.value c.self.invariant
    (subst (λ (qs : Places). IsGap len gap qs) (sym c.self.view_is) c.requires.gap))

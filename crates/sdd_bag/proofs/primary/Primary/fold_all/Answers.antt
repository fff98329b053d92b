use Rattle.std.proofs.Common.{◌≡◌, ◌++◌, List, [], sym, subst, arith}
use Rattle.sdd_bag.specs.Storage.{values_in}
use Rattle.sdd_bag.specs.Values.{AreInSomeOrder}
use Rattle.sdd_bag.specs.Primary.{PrimaryParts, held_by}
use Rattle.sdd_bag.proofs.Prefixes.{as-long}
use Rattle.sdd_bag.proofs.Values.{none-in}
use Rattle.sdd_bag.proofs.primary.Primary.fold_all.Goals as goal

pub returns-clause-empty : goal.returns-clause-empty
returns-clause-empty g c =
    let long = as-long c.self.inside.keys c.fold_front.new.self c.fold_front.ensures.names in
    none-in c.fold_front.new.self (λ k near. c.fold_front.ensures.empty k (omega (arith, near, long, c.self.invariant.long)))

pub returns-clause-folded : goal.returns-clause-folded
returns-clause-folded g c = λ others vs result order folded.
    let Parts : Type 0 = PrimaryParts g.row.T.Denot in
    let none : values_in c.fold_front.new.self ≡ [] = returns-clause-empty g c in
    let got = c.fold_front.ensures.folded others vs result (subst (λ (ws : List _). AreInSomeOrder vs (others ++ ws)) (sym none) order) folded in (
      got.0,
      subst (λ (p : Parts). AreInSomeOrder got.0 (others ++ held_by p)) c.self.view_is got.1,
      got.2,
    )

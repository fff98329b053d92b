use Rattle.std.proofs.Common.{◌-◌, ◌<◌, List, length, map, sym, subst, arith}
use Rattle.sdd_bag.specs.Storage.{AreCounted, AreFull, KeptPlace, kept_place}
use Rattle.sdd_bag.proofs.Prefixes.{front-removed, rest-full, some-arrays}
use Rattle.sdd_bag.proofs.storage_keys.StorageKeys.remove_places.Goals as goal
use Rattle.sdd_bag.proofs.storage_keys.StorageKeys.remove_places.Goals.{then-self-gt0, else-self-gt0}

pub invariant_of-self : goal.invariant_of-self
invariant_of-self g c =
    let Places : Type 0 = List (KeptPlace g.row.T.Denot) in let n = c.self.inside.arrays in let ps : Places = map kept_place c.self.inside.keys.kept in
    let some = subst (λ (qs : Places). 0 < length qs) (sym c.self.view_is) c.requires.some in
    let arrays = some-arrays g.row.LEN c.self.inside.count n ps some c.self.invariant in
    subst (λ (qs : Places). AreCounted g.row.LEN c.if-self-gt0.self (n - 1) qs) (sym c.forget.ensures)
    (front-removed g.row.LEN c.self.inside.count n (n - 1) ps some c.self.invariant (omega (arith, arrays)) c.if-self-gt0.self
    (λ more. elim c.if-self-gt0.branch [ then-self-gt0 w ↦ w.self-is | else-self-gt0 w ↦ omega (arith, more, w.if-self-gt0.false) ])
    (λ least. elim c.if-self-gt0.branch [ then-self-gt0 w ↦ omega (arith, least, w.if-self-gt0.true) | else-self-gt0 w ↦ w.self-is ]))

pub returns-clause-full : goal.returns-clause-full
returns-clause-full g c =
    let Places : Type 0 = List (KeptPlace g.row.T.Denot) in let ps : Places = map kept_place c.self.inside.keys.kept in
    let rest = rest-full g.row.LEN c.self.inside.count c.self.inside.arrays ps c.self.invariant in
    subst (λ (qs : Places). AreFull g.row.LEN qs) (sym c.forget.ensures) (λ k near inside. rest k inside)

use Rattle.std.proofs.Common.{◌≡◌, ◌+◌, ◌-◌, List, None, map, sym, ap, ◌∙◌, subst, arith}
use Rattle.sdd_bag.specs.Storage.{AreCounted, KeptPlace, kept_place, names_of, values_in}
use Rattle.sdd_bag.specs.Values.{HasOneMore}
use Rattle.sdd_bag.proofs.Prefixes.{one-fewer}
use Rattle.sdd_bag.proofs.Values.{names-same, one-out}
use Rattle.sdd_bag.proofs.storage_keys.StorageKeys.pop.Goals as goal

pub invariant_of-self : goal.invariant_of-self
invariant_of-self g c =
    let at = c.self.inside.count - 1 in
    let last : at + 1 ≡ c.self.inside.count = omega (arith, c.if-self-eq0.false) in
    subst (λ (ps : List (KeptPlace g.row.T.Denot)). AreCounted g.row.LEN at c.self.inside.arrays ps) (sym c.exchange.ensures.now)
    (one-fewer g.row.LEN c.self.inside.count c.self.inside.arrays (map kept_place c.self.inside.keys.kept) c.self.invariant at last
    c.exchange.ensures.there)

pub returns-clause-names : goal.returns-clause-names
returns-clause-names g c =
    ap (λ (ps : List (KeptPlace g.row.T.Denot)). names_of ps) c.exchange.ensures.now
    ∙ names-same (map kept_place c.self.inside.keys.kept) (c.self.inside.count - 1) None
    ∙ ap (λ (ps : List (KeptPlace g.row.T.Denot)). names_of ps) c.self.view_is

pub returns-clause-values : goal.returns-clause-values
returns-clause-values g c =
    let Places : Type 0 = List (KeptPlace g.row.T.Denot) in let ps : Places = map kept_place c.self.inside.keys.kept in
    let value = c.in-Some.value in
    subst (λ (qs : Places). HasOneMore value (values_in (map kept_place c.exchange.new.keys.kept)) (values_in qs)) c.self.view_is
    (subst (λ (qs : Places). HasOneMore value (values_in qs) (values_in ps)) (sym c.exchange.ensures.now)
    (one-out ps (c.self.inside.count - 1) value (sym c.in-Some.ensures.was)))

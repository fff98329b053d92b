use Rattle.std.proofs.Common.{◌≡◌, ◌+◌, List, None, map, sym, ap, ◌∙◌, subst, arith}
use Rattle.sdd_bag.specs.Lent.{TakesLast}
use Rattle.sdd_bag.specs.Storage.{AreCounted, KeptPlace, kept_place, names_of}
use Rattle.sdd_bag.proofs.LentValues.{last-taken}
use Rattle.sdd_bag.proofs.Prefixes.{one-fewer}
use Rattle.sdd_bag.proofs.Values.{names-same}
use Rattle.sdd_bag.proofs.storage_keys.StorageKeys.take_last.Goals as goal

pub invariant_of-self : goal.invariant_of-self
invariant_of-self g c =
    let last : c.in-Some.last + 1 ≡ c.self.inside.count = omega (arith, c.in-Some.ensures.0, c.in-Some.ensures.1) in
    subst (λ (ps : List (KeptPlace g.row.T.Denot)). AreCounted g.row.LEN c.in-Some.last c.self.inside.arrays ps) (sym c.exchange.ensures.now)
    (one-fewer g.row.LEN c.self.inside.count c.self.inside.arrays (map kept_place c.self.inside.keys.kept) c.self.invariant c.in-Some.last last
    c.exchange.ensures.there)

pub returns-clause-names : goal.returns-clause-names
returns-clause-names g c =
    ap (λ (ps : List (KeptPlace g.row.T.Denot)). names_of ps) c.exchange.ensures.now
    ∙ names-same (map kept_place c.self.inside.keys.kept) c.in-Some.last None
    ∙ ap (λ (ps : List (KeptPlace g.row.T.Denot)). names_of ps) c.self.view_is

pub returns-clause-taken : goal.returns-clause-taken
returns-clause-taken g c =
    let Places : Type 0 = List (KeptPlace g.row.T.Denot) in let ps : Places = map kept_place c.self.inside.keys.kept in
    let last : c.in-Some.last + 1 ≡ c.self.inside.count = omega (arith, c.in-Some.ensures.0, c.in-Some.ensures.1) in
    let value = c.in-Some-exchange.value in let new : Places = map kept_place c.exchange.new.keys.kept in
    subst (λ (qs : Places). TakesLast g.row.LEN c.in-Some.last value qs new) c.self.view_is
    (subst (λ (qs : Places). TakesLast g.row.LEN c.in-Some.last value ps qs) (sym c.exchange.ensures.now)
    (last-taken g.row.LEN c.self.inside.count c.self.inside.arrays c.in-Some.last ps value c.self.invariant last c.exchange.ensures.there
    (sym c.in-Some-exchange.ensures.was)))

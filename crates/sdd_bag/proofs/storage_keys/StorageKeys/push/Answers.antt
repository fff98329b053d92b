use Rattle.std.proofs.Common.{◌+◌, ◌<◌, List, Some, map, sym, ap, ◌∙◌, subst, arith}
use Rattle.sdd_bag.specs.Storage.{AreCounted, KeptPlace, kept_place, names_of, values_in}
use Rattle.sdd_bag.specs.Values.{HasOneMore}
use Rattle.sdd_bag.proofs.Prefixes.{one-more}
use Rattle.sdd_bag.proofs.Values.{names-same, one-in}
use Rattle.sdd_bag.proofs.storage_keys.StorageKeys.push.Goals as goal

pub invariant_of-self : goal.invariant_of-self
invariant_of-self g c =
    let room : c.self.inside.count < g.row.LEN = omega (arith, c.if-self.false, c.self.invariant.most) in
    subst (λ (ps : List (KeptPlace g.row.T.Denot)). AreCounted g.row.LEN (c.self.inside.count + 1) c.self.inside.arrays ps) (sym c.exchange.ensures.now)
    (one-more g.row.LEN c.self.inside.count c.self.inside.arrays (map kept_place c.self.inside.keys.kept) c.self.invariant c.args.value room
    c.exchange.ensures.there)

pub returns-clause-names : goal.returns-clause-names
returns-clause-names g c =
    ap (λ (ps : List (KeptPlace g.row.T.Denot)). names_of ps) c.exchange.ensures.now
    ∙ names-same (map kept_place c.self.inside.keys.kept) c.self.inside.count (Some c.args.value)
    ∙ ap (λ (ps : List (KeptPlace g.row.T.Denot)). names_of ps) c.self.view_is

pub returns-clause-values : goal.returns-clause-values
returns-clause-values g c =
    let Places : Type 0 = List (KeptPlace g.row.T.Denot) in let ps : Places = map kept_place c.self.inside.keys.kept in
    subst (λ (qs : Places). HasOneMore c.args.value (values_in qs) (values_in (map kept_place c.exchange.new.keys.kept))) c.self.view_is
    (subst (λ (qs : Places). HasOneMore c.args.value (values_in ps) (values_in qs)) (sym c.exchange.ensures.now)
    (one-in ps c.self.inside.count c.args.value c.exchange.ensures.there (sym c.in-None.ensures.was)))

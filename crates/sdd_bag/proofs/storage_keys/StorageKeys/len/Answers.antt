use Rattle.std.proofs.Common.{◌≡◌, ◌+◌, ◌-◌, ◌*◌, List, length, map, subst}
use Rattle.sdd_bag.specs.Storage.{KeptPlace, kept_place, values_in}
use Rattle.sdd_bag.proofs.Prefixes.{all-counted}
use Rattle.sdd_bag.proofs.storage_keys.StorageKeys.len.Goals as goal

pub returns-else-self-eq0-clause-values : goal.returns-else-self-eq0-clause-values
returns-else-self-eq0-clause-values g c =
    subst (λ (ps : List (KeptPlace g.row.T.Denot)). c.self.inside.count + (c.self.inside.arrays - 1) * g.row.LEN ≡ length (values_in ps)) c.self.view_is
    (all-counted g.row.LEN c.self.inside.count c.self.inside.arrays (map kept_place c.self.inside.keys.kept) c.if-self-eq0.false c.self.invariant)

use Rattle.sdd_bag.proofs.LentValues.{first-filled}
use Rattle.std.proofs.Common.{◌≡◌, List, is_some, true, subst}
use Rattle.sdd_bag.specs.Storage.{AreEmpty, KeptPlace, value_at}
use Rattle.sdd_bag.proofs.storage_keys.StorageKeys.fill_in_order.Goals as goal

pub returns-clause-first : goal.returns-clause-first
returns-clause-first g c =
    subst (λ (ps : List (KeptPlace g.row.T.Denot)). ¬ (AreEmpty g.row.LEN ps) → is_some (value_at ps 0) ≡ true) c.self.view_is
    (first-filled g.row.LEN c.self.inside.count c.self.inside.arrays _ c.self.invariant)

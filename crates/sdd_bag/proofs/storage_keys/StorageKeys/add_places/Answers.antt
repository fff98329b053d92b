use Rattle.std.proofs.Common.{◌+◌, ◌<◌, ◌^◌, List, map, length, sym, subst}
use Rattle.sdd_bag.specs.Storage.{AreCounted, AreFull, KeptPlace, kept_place}
use Rattle.sdd_bag.proofs.Prefixes.{newly-counted}
use Rattle.sdd_bag.proofs.storage_keys.StorageKeys.add_places.Goals as goal

pub invariant_of-self : goal.invariant_of-self
invariant_of-self g c =
    let Places : Type 0 = List (KeptPlace g.row.T.Denot) in
    let is = sym c.self.view_is in
    let full = subst (λ (ps : Places). AreFull g.row.LEN ps) is c.requires.full in
    let few = subst (λ (ps : Places). length ps < 2 ^ 80) is c.requires.few in
    subst (λ (ps : Places). AreCounted g.row.LEN 0 (c.self.inside.arrays + 1) ps) (sym c.new-places.ensures.kept)
    (newly-counted g.row.LEN c.self.inside.count c.self.inside.arrays c.new-places.result (map kept_place c.self.inside.keys.kept)
    c.new-places.ensures.long full few c.self.invariant)

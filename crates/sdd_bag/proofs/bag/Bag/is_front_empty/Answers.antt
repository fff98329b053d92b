use Rattle.std.proofs.Common.{subst}
use Rattle.std.specs.Prelude.{IsTrue, ◌↔◌}
use Rattle.sdd_bag.specs.Storage.{AreEmpty}
use Rattle.sdd_bag.specs.Bag.{BagParts}
use Rattle.sdd_bag.proofs.bag.Bag.is_front_empty.Goals as goal

pub returns : goal.returns
returns g c =
    subst (λ (b : BagParts g.row.T.Denot g.row.B.Denot). IsTrue c.is_front_empty.result ↔ AreEmpty g.row.ARRAY_LEN b.overflow.places) c.self.view_is
    c.is_front_empty.ensures

use Rattle.std.proofs.Common.{subst}
use Rattle.sdd_bag.specs.Bag.{BagParts}
use Rattle.sdd_bag.specs.Spots.{IsInOrder}
use Rattle.sdd_bag.proofs.bag.Bag.lies_in_order.Goals as goal

pub returns : goal.returns
returns g c =
    subst (λ (b : BagParts g.row.T.Denot g.row.B.Denot). IsInOrder g.row.ARRAY_LEN b) c.self.view_is
    (record { some = c.fill_in_order.ensures.some; long = c.has_all_places.ensures; fills = c.fill_in_order.ensures.first })

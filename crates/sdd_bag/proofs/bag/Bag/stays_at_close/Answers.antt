use Rattle.sdd_bag.proofs.BagUnderGuards.{bag-closed, lies-closed}
use Rattle.sdd_bag.proofs.bag.Bag.stays_at_close.Goals as goal

pub returns : goal.returns
returns g c =
    let shown = g.B.Shelf.shown in let len = g.row.ARRAY_LEN in let bag = c.args.self.now in
    record { bag = λ w p is. bag-closed w shown len p bag is; list = λ w p es lies. lies-closed w shown len p es bag.overflow lies }

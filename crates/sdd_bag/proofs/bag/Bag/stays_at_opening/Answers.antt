use Rattle.sdd_bag.proofs.BagUnderGuards.{bag-opened, lies-opened}
use Rattle.sdd_bag.proofs.bag.Bag.stays_at_opening.Goals as goal

pub returns : goal.returns
returns g c =
    let shown = g.B.Shelf.shown in let len = g.row.ARRAY_LEN in let bag = c.args.self.now in
    record {
      bag = λ holds w p none is. bag-opened w shown len p holds none bag is;
      list = λ holds w p es none lies. lies-opened w shown len p holds none es bag.overflow lies;
    }

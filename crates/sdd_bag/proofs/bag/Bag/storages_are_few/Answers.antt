use Rattle.sdd_bag.proofs.Counting.{storages-rounded}
use Rattle.sdd_bag.proofs.bag.Bag.storages_are_few.Goals as goal

pub returns : goal.returns
returns g c = λ w is es lies. storages-rounded g.B.Shelf.shown g.row.ARRAY_LEN w c.args.self.now es c.self.invariant.0 is lies

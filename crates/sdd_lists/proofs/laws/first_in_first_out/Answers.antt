use Rattle.sdd_lists.proofs.Order.{in-order}
use Rattle.sdd_lists.proofs.laws.first_in_first_out.Goals as goal

pub returns : goal.returns
returns g c = λ q w es pushed popped gone v fs history. in-order g.T.LinkedList.link q w es pushed popped gone v fs history

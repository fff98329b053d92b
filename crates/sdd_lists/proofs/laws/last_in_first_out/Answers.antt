use Rattle.sdd_lists.proofs.Order.{reversed}
use Rattle.sdd_lists.proofs.laws.last_in_first_out.Goals as goal

pub returns : goal.returns
returns g c = λ cell w es pushed popped gone v fs history. reversed g.T.LinkedList.link cell w es pushed popped gone v fs history

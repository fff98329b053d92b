use Rattle.std.proofs.Common.{refl, of_calls}
use Rattle.sdd_lists.proofs.asking.asks.Goals as goal

pub returns : goal.returns
returns g c = (c.args.value, refl, search of_calls)

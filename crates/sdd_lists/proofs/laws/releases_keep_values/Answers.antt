use Rattle.sdd_lists.proofs.Values.{released-values}
use Rattle.sdd_lists.proofs.laws.releases_keep_values.Goals as goal

pub returns : goal.returns
returns g c = released-values g.row.T.Denot

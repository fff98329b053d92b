use denote.Param.Send.{IsSend}
use Rattle.sdd_witness.specs.contracts.witness.Witness.{the_row}
use Rattle.sdd_witness.proofs.WitnessShares.{owns_keyless}

pub send : IsSend the_row
send = record { owned = λ d vs. ((λ vss. (tt, ((λ uss. (tt, tt)), tt))), owns_keyless d.table_id d.id d.views); leaving = λ k f vs. tt }

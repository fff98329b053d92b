use denote.Param.Send.{IsSync}
use Rattle.sdd_witness.specs.contracts.witness.Witness.{the_row}
use Rattle.sdd_witness.proofs.WitnessShares.{shares_keyless}

pub sync : IsSync the_row
sync = record { shared = λ d b o κ. ((((tt, (λ q. tt)), tt), (λ q. tt)), shares_keyless d.table_id d.id d.views κ) }

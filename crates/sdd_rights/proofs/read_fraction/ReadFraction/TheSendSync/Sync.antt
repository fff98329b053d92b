use denote.Param.Send.{IsSync}
use types.Keyed.{entry_keyless}
use Rattle.atomic_table.specs.Seated.{halved}
use Rattle.sdd_rights.specs.contracts.read_fraction.ReadFraction.{the_row}

pub sync : IsSync the_row
sync = record { shared = λ d b o κ. ((((tt, (λ q. tt)), tt), (λ q. tt)), ((λ q. entry_keyless halved d.gamma d.number _), (λ q. tt))) }

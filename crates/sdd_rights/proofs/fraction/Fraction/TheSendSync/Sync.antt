use denote.RattleType.{RattleType}
use denote.Param.Send.{IsSync}
use types.Keyed.{entry_keyless}
use Rattle.atomic_table.specs.Seated.{halved}
use Rattle.sdd_rights.specs.contracts.fraction.Fraction.{the_row}

pub sync : (K : RattleType) → IsSync (the_row K)
sync K = record { shared = λ d b o κ. ((((tt, (λ q. tt)), tt), (λ q. tt)), ((λ q. entry_keyless halved d.home.name d.number _), (λ q. tt))) }

use denote.Param.Send.{IsSync}
use Rattle.sdd_values.specs.contracts.ended_section.EndedSection.{the_row}

pub sync : IsSync the_row
sync = record { shared = λ d b o κ. ((((tt, (λ q. tt)), tt), (λ q. tt)), tt) }

use denote.Param.Send.{IsSend}
use types.Keyed.{entry_keyless}
use Rattle.atomic_table.specs.Seated.{halved}
use Rattle.sdd_rights.specs.contracts.read_fraction.ReadFraction.{the_row}

pub send : IsSend the_row
send = record {
  owned = λ d vs. ((λ vss. (tt, ((λ uss. (tt, tt)), tt))), ((λ q c. entry_keyless halved d.gamma d.number _), (λ q c. tt)));
  leaving = λ k f vs. tt;
}

use denote.RattleType.{RattleType}
use denote.Param.Send.{IsSend}
use types.Keyed.{entry_keyless}
use Rattle.atomic_table.specs.Seated.{halved}
use Rattle.sdd_rights.specs.contracts.fraction.Fraction.{the_row}

pub send : (K : RattleType) → IsSend (the_row K)
send K = record {
  owned = λ d vs. ((λ vss. (tt, ((λ uss. (tt, tt)), tt))), ((λ q c. entry_keyless halved d.home.name d.number _), (λ q c. tt)));
  leaving = λ k f vs. tt;
}

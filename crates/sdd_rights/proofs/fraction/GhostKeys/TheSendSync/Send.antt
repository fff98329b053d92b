use base.Fraction.{full_share}
use base.Stored.{gnil}
use denote.RattleType.{RattleType}
use denote.Param.Send.{IsSend}
use types.Keyed.{entries_keyless}
use Rattle.atomic_table.specs.Seated.{halved}
use Rattle.sdd_rights.specs.contracts.fraction.GhostKeys.{the_row}

pub send : (K : RattleType) → IsSend (the_row K)
send K = record {
  owned = λ d vs. ((λ vss. (tt, ((λ uss. (tt, tt)), tt))), entries_keyless halved d.home.name d.next (λ _. (full_share, gnil)));
  leaving = λ k f vs. tt;
}

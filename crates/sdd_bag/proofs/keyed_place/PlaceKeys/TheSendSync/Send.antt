use denote.RattleType.{RattleType}
use denote.Param.Send.{IsSend}
use Rattle.sdd_bag.proofs.Keys.{keys_keyless}
use Rattle.sdd_bag.specs.contracts.keyed_place.PlaceKeys.{the_row}

pub send : (T : RattleType) → IsSend (the_row T)
send T = record { owned = λ k vs. ((λ vss. (tt, ((λ uss. (tt, tt)), tt))), keys_keyless T k.kept); leaving = λ k f vs. tt }

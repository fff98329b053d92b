-- Nobody owns a nullable, so it may go anywhere.
use denote.RattleType.{RattleType}
use denote.Param.Send.{IsSend, IsSync}
use Rattle.sdd_values.specs.contracts.nullable.Nullable.{the_row}

pub send : (T : RattleType) → IsSync T → IsSend (the_row T)
send T y = record { owned = λ d vs. ((λ _. tt), tt); leaving = λ k d vs. tt }

use denote.RattleType.{RattleType}
use denote.Param.Send.{IsSync, part_keyless}
use Rattle.sdd_bag.specs.contracts.keyed_place.PlaceKeys.{the_row}
use Rattle.sdd_bag.proofs.keyed_place.PlaceKeys.TheSendSync.Send.{send}

pub sync : (T : RattleType) → IsSync (the_row T)
sync T = record { shared = λ d b o κ q. part_keyless (the_row T) (send T) q d b o }

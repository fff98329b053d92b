use denote.RattleType.{RattleType}
use denote.Param.Send.{IsSync, part_keyless}
use Rattle.sdd_rights.specs.contracts.fraction.GhostKeys.{the_row}
use Rattle.sdd_rights.proofs.fraction.GhostKeys.TheSendSync.Send.{send}

pub sync : (K : RattleType) → IsSync (the_row K)
sync K = record { shared = λ d b o κ q. part_keyless (the_row K) (send K) q d b o }

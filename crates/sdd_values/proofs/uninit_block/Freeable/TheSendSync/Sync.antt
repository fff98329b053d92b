use denote.RattleType.{RattleType}
use denote.Param.Send.{IsSend, IsSync, Frees, part_keyless}
use Rattle.core.specs.declared.alloc.Allocator.{Ghosts}
use Rattle.sdd_values.specs.contracts.uninit_block.Freeable.{the_row}
use Rattle.sdd_values.proofs.uninit_block.Freeable.TheSendSync.Send.{send}

pub sync : (T A : RattleType) (g : Ghosts A.Denot) → IsSend A → Frees g g.dealloc_token → IsSync (the_row T A g)
sync T A g s f = record { shared = λ d b o ν q. part_keyless (the_row T A g) (send T A g s f) q d b o }

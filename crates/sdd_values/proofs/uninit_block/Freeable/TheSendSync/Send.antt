use denote.RattleType.{RattleType}
use denote.Param.Send.{IsSend, Frees}
use Rattle.core.specs.declared.alloc.Allocator.{Ghosts}
use Rattle.sdd_values.specs.contracts.uninit_block.Freeable.{the_row}

pub send : (T A : RattleType) (g : Ghosts A.Denot) → IsSend A → Frees g g.dealloc_token → IsSend (the_row T A g)
send T A g s f = record { owned = λ d vs. ((λ uss. (tt, (tt, ((tt, tt), ((λ wss. (tt, tt)), tt))))), f.frees _ _ _); leaving = λ k x vs. tt }

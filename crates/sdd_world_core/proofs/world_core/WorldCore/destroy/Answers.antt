use Rattle.sdd_participants.proofs.Places.{free-places}
use Rattle.sdd_world_core.proofs.world_core.WorldCore.destroy.Goals as goal

pub destroy-requires : goal.destroy-requires
destroy-requires g c = (rw (← c.self.view_is) at c.requires.unused).0

pub destroy-requires-2 : goal.destroy-requires-2
destroy-requires-2 g c = (rw (← c.self.view_is) at c.requires.unused).1

pub destroy-requires-3 : goal.destroy-requires-3
destroy-requires-3 g c = let idle = rw (← c.self.view_is) at c.requires.idle in record { free = λ k. free-places c.self.inside.jobs k (idle k) }

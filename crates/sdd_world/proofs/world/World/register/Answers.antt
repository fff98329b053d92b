use Rattle.sdd_world_model.proofs.PlacesMatchStates.{registered-apart, registered-live, registered-lives}
use Rattle.sdd_world_model.proofs.AcceleratedGuards.{registered-guards}
use Rattle.sdd_world.proofs.world.World.register.Goals as goal

pub returns-clause-place : goal.returns-clause-place
returns-clause-place g c =
    let h = c.in_ok-index.ensures.registered in
    rw h.1 (registered-live c.self.inside.core.world.time c.in_ok-index.index c.self.invariant.2.housed.lengths h.0)

pub returns-clause-others : goal.returns-clause-others
returns-clause-others g c =
    let h = c.in_ok-index.ensures.registered in
    rw (← c.self.view_is, h.1) (λ p l. (
      registered-apart c.self.inside.core.world.time c.in_ok-index.index p h.0 l,
      registered-lives c.self.inside.core.world.time c.in_ok-index.index p c.self.invariant.2.housed.lengths l,
    ))

pub returns-clause-quiet : goal.returns-clause-quiet
returns-clause-quiet g c =
    let h = c.in_ok-index.ensures.registered in
    rw (← c.self.view_is, h.1) (λ quiet some. quiet (registered-guards c.self.inside.core.world c.in_ok-index.index some))

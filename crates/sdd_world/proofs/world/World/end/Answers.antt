use Rattle.sdd_world_model.proofs.PlacesMatchStates.{ended-lives}
use Rattle.sdd_world.proofs.world.World.end.Goals as goal

pub returns-clause-others : goal.returns-clause-others
returns-clause-others g c = rw (c.end.ensures.ended, c.self.view_is) (λ p apart l. ended-lives c.args.self.now.time c.args.place.index p apart l)

use Rattle.sdd_space.proofs.Composed.{first-of, rest-home, gives-both}
use Rattle.sdd_space.proofs.item.composed.Tuple3Item.give_up.Goals as goal

pub give_up-requires-clause-home : goal.give_up-requires-clause-home
give_up-requires-clause-home g c = first-of (g.G.Giver.caller c.args.giver.now).home (g.A.Item.holds c.args.self.0) _ c.requires.home

pub give_up-requires-2-clause-home : goal.give_up-requires-2-clause-home
give_up-requires-2-clause-home g c = rest-home _ _ (g.A.Item.holds c.args.self.0) _ c.give_up.ensures.caller c.requires.home

pub returns-clause-exact : goal.returns-clause-exact
returns-clause-exact g c = gives-both _ _ _ _ _ (g.A.Item.holds c.args.self.0) _ c.give_up.ensures.caller c.give_up.ensures.exact c.give_up-2.ensures.exact

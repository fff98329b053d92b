use Rattle.sdd_space.proofs.Composed.{first-of, rest-home, gives-both}
use Rattle.sdd_lists.specs.Entries.{value_of}
use Rattle.sdd_lists.proofs.linked_entry.LinkedEntryItem.give_up.Goals as goal

pub give_up-requires-clause-home : goal.give_up-requires-clause-home
give_up-requires-clause-home g c = first-of (g.G.Giver.caller c.args.giver.now).home (g.T.Item.holds (value_of c.args.self)) _ c.requires.home

pub atomic_shared-requires-clause-home : goal.atomic_shared-requires-clause-home
atomic_shared-requires-clause-home g c = (rest-home _ _ (g.T.Item.holds (value_of c.args.self)) _ c.give_up.ensures.caller c.requires.home).0

pub returns-clause-exact : goal.returns-clause-exact
returns-clause-exact g c = gives-both _ _ _ _ _
    (g.T.Item.holds (value_of c.args.self)) _ c.give_up.ensures.caller c.give_up.ensures.exact c.atomic_shared.ensures.exact

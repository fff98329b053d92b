use Rattle.sdd_world_model.proofs.PlacesMatchStates.{Whole-changes_nested}
use Rattle.sdd_world_core.proofs.world_core.WorldCore.enter.Goals as goal

pub returns-then-open-clause-whole : goal.returns-then-open-clause-whole
returns-then-open-clause-whole g c =
    rw (c.change.ensures.changed, c.open.ensures.opened, ← c.self.view_is)
    (λ i. Whole-changes_nested g.T.Item.holds _ c.args.place (rw (← c.self.view_is) at c.requires.place) i)

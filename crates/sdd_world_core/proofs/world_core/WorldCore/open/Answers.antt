use Rattle.std.proofs.Common.{sym}
use Rattle.sdd_world_core.proofs.Lending.{due-home, lent-opened, section-left, reader-there}
use Rattle.sdd_world_core.proofs.world_core.WorldCore.open.Goals as goal

pub enter-requires-clause-home : goal.enter-requires-clause-home
enter-requires-clause-home g c = due-home g.T.Item.holds _ _ c.args.place c.requires.place.0 c.requires.whole c.requires.lent

pub returns-clause-lent : goal.returns-clause-lent
returns-clause-lent g c =
    let lent = rw (← c.self.view_is) at c.requires.lent in
    let live = rw (← c.self.view_is) at c.requires.place in
    rw (c.share.ensures.shared, c.enter.ensures.opened, ← c.self.view_is)
    (lent-opened g.T.Item.holds _ _ c.args.place live (reader-there _ _ lent (sym c.self.invariant.sections) c.args.place live.0)
    (section-left _ _ lent c.args.place (rw (← c.self.view_is) at c.requires.few)) (rw (← c.self.view_is) at c.requires.whole)
    (rw (c.enter.ensures.opened, ← c.self.view_is) at c.enter.ensures.sizes) lent)

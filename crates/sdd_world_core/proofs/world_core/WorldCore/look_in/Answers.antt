use Rattle.std.proofs.Common.{◌∙◌}
use Rattle.sdd_world_core.proofs.Lending.{free-here, lent-here}
use Rattle.sdd_world_core.proofs.world_core.WorldCore.look_in.Goals as goal

pub look-requires-clause-free : goal.look-requires-clause-free
look-requires-clause-free g c = rw (← c.agree.ensures.lifetime) (free-here _ _ (rw (← c.self.view_is) at c.requires.lent) c.args.place c.args.slot)

pub returns-clause-lent : goal.returns-clause-lent
returns-clause-lent g c = rw (c.look.ensures.lent, ← c.agree.ensures.lifetime)
    (lent-here _ _ c.args.place c.args.slot (rw (← c.self.view_is) at c.requires.stays) (c.agree.ensures.kind ∙ c.requires.section.kind)
    (rw (← c.self.view_is) at c.requires.lent))

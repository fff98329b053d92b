use Rattle.std.proofs.Common.{subst}
use Rattle.sdd_shared_values.specs.SharedValues.{showing}
use Rattle.sdd_domain_steps.specs.Local.{LocalModel}
use Rattle.sdd_domain_core.specs.Sound.{IsSound}
use Rattle.sdd_domain_core.proofs.Sound.{held_at_home}
use Rattle.sdd_domain.proofs.space.LocalShows.shown_is_of_home.Goals as goal

pub returns : goal.returns
returns g c = held_at_home (showing g.row.T) g.T.Item.holds c.args.self.now
    (subst (λ (p : LocalModel g.row.T.Denot g.row.J.Denot). IsSound g.T.Item.holds p) c.self.view_is c.self.invariant)

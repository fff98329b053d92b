use Rattle.std.proofs.Common.{subst, ◌∙◌}
use Rattle.sdd_atomics.specs.TableFacts.{facts_of}
use Rattle.sdd_world_model.specs.OwnerOrCell.{SpaceId, AreOf}
use Rattle.sdd_domain_steps.specs.SpaceIds.{home_in}
use Rattle.sdd_domain_steps.specs.Local.{LocalModel}
use Rattle.sdd_domain.proofs.Givers.{same_giver}
use Rattle.sdd_domain_steps.proofs.SameHome.{of_domain}
use Rattle.sdd_domain.proofs.space.LocalLook.value.Goals as goal

pub returns-clause-held : goal.returns-clause-held
returns-clause-held g c = let v : LocalModel _ _ = (c.self-inside.view_is 0).giver in let inner = same_giver c.self-inside.view_is in
    let d = c.domain.result.now in let hs = g.T.Item.holds c.view.result.now in
    let here = subst (λ (h : SpaceId). AreOf h hs) c.domain.ensures.home (of_domain d.limits (facts_of d.table) d.values d.limited.1 d.shelved.0 hs
    c.view.ensures.fits) in
    subst (λ (p : LocalModel g.row.T.Denot g.row.J.Denot). AreOf (home_in p.member) hs) (inner ∙ c.self.view_is) here

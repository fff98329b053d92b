use Rattle.sdd_atomics.specs.TableFacts.{facts_of}
use Rattle.sdd_domain_steps.proofs.SameHome.{of_domain}
use Rattle.sdd_domain_core.proofs.looks.DomainLook.value.Goals as goal

pub returns-clause-held : goal.returns-clause-held
returns-clause-held g c =
    let d = c.args.self.now in of_domain d.limits (facts_of d.table) d.values d.limited.1 d.shelved.0 (g.T.Item.holds c.view.result.now) c.view.ensures.fits

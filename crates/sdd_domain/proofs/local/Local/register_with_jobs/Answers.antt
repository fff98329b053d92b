use Rattle.sdd_domain_core.proofs.Registered.{tied_new, blank_new}
use Rattle.sdd_domain_core.proofs.Sound.{sound_new}
use Rattle.sdd_domain.proofs.local.Local.register_with_jobs.Goals as goal

pub invariant_of-result : goal.invariant_of-result
invariant_of-result g c = tied_new _ _ _ c.in-Ok.core c.new-ghost_values.result.entries c.in-Ok.ensures.registered c.new-ghost_values.ensures

pub invariant_of-result-2 : goal.invariant_of-result-2
invariant_of-result-2 g c = sound_new g.T.Item.holds _ _ _ c.in-Ok.core c.new-ghost_values.result.entries c.in-Ok.ensures.registered
    c.new-ghost_values.ensures

pub returns-clause-blank : goal.returns-clause-blank
returns-clause-blank g c = blank_new _ _ _ c.in-Ok.core c.new-ghost_values.result.entries c.in-Ok.ensures.registered c.new-ghost_values.ensures

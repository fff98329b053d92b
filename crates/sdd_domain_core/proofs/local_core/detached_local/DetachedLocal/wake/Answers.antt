use Rattle.sdd_atomics.specs.TableFacts.{facts_of}
use Rattle.std.proofs.Common.{rules, ◌≡◌, refl, sym, ap, ◌∙◌}
use Rattle.sdd_domain_steps.specs.DomainValues.{sizes_in}
use Rattle.sdd_domain_steps.specs.InBags.{known_waiting}
use Rattle.sdd_domain_steps.specs.LocalState.{LocalState}
use Rattle.sdd_domain_core.proofs.DetachedLocal.{between_calls_on, ready_on}
use Rattle.sdd_domain_core.proofs.local_core.detached_local.DetachedLocal.wake.Goals as goal

pub invariant_of-result-2 : goal.invariant_of-result-2
invariant_of-result-2 g c = let same : c.self.inside.limits ≡ c.args.domain.now.limits = search rules in let i = c.self.invariant in
    let d = c.args.domain.now in
    let ids = sym i.between_calls.home ∙ (ap (λ (m : LocalState _). m.home) c.self.view_is ∙ c.requires.home.0) in
    let sizes = i.sizes ∙ (ap sizes_in same ∙ sym d.limited.1) in
    let gamma = sym i.between_calls.knows.1 ∙ (ap (λ (m : LocalState _). m.gamma) c.self.view_is ∙ c.requires.home.1) in (
      between_calls_on i.table (facts_of d.table) ids sizes gamma c.self.inside.place c.self.inside.own c.self.inside.seat i.between_calls,
      record { nesting_is = refl; state_is = c.state_word.ensures },
      i.section_is,
      i.lent,
      ready_on i.table (facts_of d.table) ids sizes gamma c.self.inside.own c.self.inside.due c.self.inside.known.slots c.self.inside.jobs
          c.self.inside.privates.entries
          (known_waiting c.self.inside.seat.me.0.slots) i.ready,
      i.tallied,
    )

-- the seat is one at the domain's table
pub invariant_of-result : goal.invariant_of-result
invariant_of-result g c = let same : c.self.inside.limits ≡ c.args.domain.now.limits = search rules in let i = c.self.invariant in
    let d = c.args.domain.now in record {
      home = ap (λ (m : LocalState _). m.home) c.self.view_is ∙ c.requires.home.0;
      sizes = i.between_calls.knows.0 ∙ (i.sizes ∙ (ap sizes_in same ∙ sym d.limited.1));
      gamma = ap (λ (m : LocalState _). m.gamma) c.self.view_is ∙ c.requires.home.1;
    }

pub returns-clause-same : goal.returns-clause-same
returns-clause-same g c = let same : c.args.domain.now.limits ≡ c.self.inside.limits = search rules in
    let gamma = sym (ap (λ (m : LocalState _). m.gamma) c.self.view_is ∙ c.requires.home.1) in
    (λ d. record (c.self.view_is 0) { gamma = gamma d; limits = same d }) ∙ c.self.view_is

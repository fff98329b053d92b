use Rattle.std.proofs.Common.{◌≡◌, ℕ, ◌<◌, ap, ◌∙◌, subst, arith}
use Rattle.sdd_rights.specs.declared.views.Sizes.{Sizes}
use Rattle.sdd_atomics.specs.TableFacts.{facts_of, slots_of}
use Rattle.sdd_domain_steps.specs.LocalState.{LocalState, IsFree}
use Rattle.sdd_domain_core.proofs.local_core.LocalCore.has_slot.Goals as goal

pub returns-clause-found : goal.returns-clause-found
returns-clause-found g c won one =
    let l = c.self.inside in let all = c.self.invariant.0.all ∙ ap (λ (z : Sizes). z.participants) l.domain.now.limited.1 in
    let free = c.finds_free.ensures.found won (all ∙ (ap (λ (m : LocalState _). m.limits.participants) c.self.view_is ∙ one)) in
    let slots : slots_of (facts_of l.domain.now.table) ≡ l.domain.now.limits.slots = ap (λ (z : Sizes). z.slots) l.domain.now.limited.1 in
    subst (λ (m : LocalState _). (slot : ℕ) × (slot < m.limits.slots) × IsFree m slot) c.self.view_is (
      free.0,
      omega (
        arith,
        slots,
        ap (λ (z : Sizes). z.slots) c.self.invariant.0.knows.0,
        free.1,
      ),
      free.2,
    )

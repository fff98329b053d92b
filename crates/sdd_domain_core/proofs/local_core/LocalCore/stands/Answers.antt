use Rattle.std.proofs.Common.{◌≢◌, Some, ap, ◌∙◌, subst}
use Rattle.sdd_atomics.specs.DomainSeat.{view}
use Rattle.sdd_atomics.specs.TableFacts.{facts_of, slots_of}
use Rattle.sdd_participants.specs.Slab.{entry_at}
use Rattle.sdd_domain_steps.specs.InBags.{known_waiting}
use Rattle.sdd_domain_steps.specs.LocalState.{LocalState}
use Rattle.sdd_domain_core.proofs.CollectorItems.{due_apart, none_for_closed}
use Rattle.sdd_domain_core.proofs.local_core.LocalCore.stands.Goals as goal

pub returns-clause-once : goal.returns-clause-once
returns-clause-once g c = λ slot rest first. let l = c.self.inside in
    due_apart (slots_of (facts_of l.domain.now.table)) slot (known_waiting (view l.seat).slots) l.own.bags.waiting l.due.items rest c.self.invariant.4.bags
    (ap (λ (m : LocalState _). m.due) c.self.view_is ∙ first)

pub returns-clause-none : goal.returns-clause-none
returns-clause-none g c = λ collector closes none slot. let l = c.self.inside in let ready = c.self.invariant.4 in
    subst (λ (m : LocalState _). entry_at m.collectors slot ≢ Some collector) c.self.view_is
    (none_for_closed (slots_of (facts_of l.domain.now.table)) collector (known_waiting (view l.seat).slots) l.own.bags.waiting l.due.items ready.bags
    (ap (λ (m : LocalState _). m.due) c.self.view_is ∙ none) (ap (λ (m : LocalState _). m.slots.closes) c.self.view_is ∙ closes) _ ready.told slot)

use Rattle.sdd_domain_core.specs.DetachedLocal.{IsDormant}
use Rattle.sdd_atomics.specs.SeatAtTable.{DomainSeat}
use Rattle.std.proofs.Common.{rules, ap, ◌∙◌, subst, sym}
use Rattle.sdd_atomics.specs.TableFacts.{facts_of}
use Rattle.sdd_domain_steps.specs.LocalState.{LocalState}
use Rattle.sdd_domain_core.proofs.local_core.LocalCore.rest.Goals as goal

pub invariant_of-result : goal.invariant_of-result
invariant_of-result g c = let l = c.self.inside in let i = c.self.invariant in
    subst (λ (s : DomainSeat). IsDormant l.domain.now.limits l.place l.own l.due l.known.slots l.jobs l.privates.entries l.section s l.tally)
    (sym c.into_seat.ensures) record {
      table = (facts_of l.domain.now.table);
      sizes = l.domain.now.limited.1;
      shut = search rules;
      settled = ap (λ (m : LocalState _). m.due) c.self.view_is ∙ c.requires.settled;
      closes = ap (λ (m : LocalState _). m.slots.closes) c.self.view_is ∙ c.requires.closes;
      between_calls = i.0;
      section_is = i.2;
      lent = i.3;
      ready = i.4;
      tallied = i.5;
    }

use Rattle.sdd_atomics.specs.SeatAtTable.{DomainSeat}
use Rattle.std.proofs.Common.{sym, ap, ◌∙◌, subst}
use Rattle.sdd_participants.specs.declared.tally.Tally.{Tally}
use Rattle.sdd_rights.specs.declared.views.CountsView.{CountsView}
use Rattle.sdd_rights.specs.declared.views.View.{View}
use Rattle.sdd_atomics.specs.TableFacts.{facts_of, sizes_of, slots_of}
use Rattle.sdd_domain_steps.specs.InBags.{known_waiting}
use Rattle.sdd_domain_steps.specs.LocalState.{LocalState, waits}
use Rattle.sdd_domain_steps.specs.Receipt.{IsTallied}
use Rattle.sdd_domain_core.proofs.Tallies.{tallied_ended}
use Rattle.sdd_domain_core.proofs.JobTables.{none-there, none-wait}
use Rattle.sdd_domain_core.proofs.local_core.LocalCore.end.Goals as goal

pub new-requires : goal.new-requires
new-requires g c = let l = c.self.inside in let counts : CountsView = l.seat.me.0.fractions.counts in
    subst (λ (z : Tally × CountsView). IsTallied 1 z.0 z.1)
    (λ d. (
      sym c.total.ensures d,
      sym (ap (λ (s : DomainSeat). s.me.0.fractions.counts) c.into_seat.ensures
          ∙ ap (λ (v : View). v.fractions.counts) c.end.ensures.3) d,
    )) (tallied_ended l.tally counts c.self.invariant.5)

pub destroy-requires : goal.destroy-requires
destroy-requires g c = let l = c.self.inside in let i = c.self.invariant in let r = i.4 in record {
  free = none-there (slots_of (facts_of l.domain.now.table)) (sizes_of (facts_of l.domain.now.table)).jobs l.jobs (known_waiting l.seat.me.0.slots)
      l.due.items l.own.bags.waiting
      r.places r.jobs r.bags (ap (λ (m : LocalState _). m.due) c.self.view_is ∙ c.requires.settled)
      (none-wait l.own (ap waits c.self.view_is ∙ c.requires.idle));
}

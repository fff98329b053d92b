use Rattle.sdd_domain_core.proofs.AtTable.{at_table}
use Rattle.std.proofs.Common.{◌≡◌, ◌≢◌, ℕ, ◌+◌, ◌≤◌, List, [], rules, refl, sym, ap, ◌∙◌, subst, inl, inr, ⊎_elim, arith}
use Rattle.sdd_participants.specs.EpochState.{nested, settled}
use Rattle.sdd_participants.specs.declared.participant.Participant.{Participant}
use Rattle.sdd_participants.specs.declared.waiting.LimboEntry.{LimboEntry}
use Rattle.sdd_rights.specs.declared.views.Sizes.{Sizes}
use Rattle.sdd_domain_invariant.specs.Sums.{total}
use Rattle.sdd_domain_invariant.specs.Slots.{waits_in}
use Rattle.sdd_atomics.specs.TableFacts.{facts_of, sizes_of, slots_of, TableFacts}
use Rattle.sdd_domain_core.proofs.JobTables.{still_jobs}
use Rattle.sdd_rights.specs.declared.views.SlotsView.{SlotsView}
use Rattle.sdd_rights.specs.declared.views.FractionsView.{FractionsView}
use Rattle.sdd_domain_invariant.specs.Fractions.FractionsAtHome.{CarriedFractions}
use Rattle.sdd_rights.specs.declared.fraction.Fraction.{Fraction}
use Rattle.sdd_values.specs.declared.read_sections.SectionState.{SectionState}
use Rattle.sdd_values.specs.declared.read_sections.SectionState.TheVariants.{Closed}
use Rattle.sdd_domain_steps.specs.LocalState.{LocalState, IsEntered, GoesOn}
use Rattle.sdd_domain_steps.specs.BetweenCalls.{IsBetweenCalls, AreLentTo}
use Rattle.sdd_domain_steps.specs.Receipt.{IsTallied}
use Rattle.sdd_domain_steps.specs.InBags.{AreInBags, TellsCollectors, known_waiting}
use Rattle.sdd_domain_steps.specs.WaitingItems.{arrived_at, aged_slots_at, due_at}
use Rattle.sdd_domain_steps.proofs.Arrivals.{bags_arrived, has_open, has_room, due_moved, told_aged, quiet_due, same_aged}
use Rattle.sdd_domain_steps.proofs.LocalLooks.{with_view}
use Rattle.sdd_domain_core.proofs.local_core.LocalCore.enter.Goals as goal

abbrev Section : Type 0
Section = Fraction SectionState

pub invariant_of-self : goal.invariant_of-self
invariant_of-self g c =
    let l = c.self.inside in let i = c.self.invariant in let b = (facts_of l.domain.now.table) in let own : Participant = c.arrive-goes_on.new.own in
    let a = c.arrive-goes_on.ensures.arrived in let count : ℕ = a.0 in let arrives = a.1 in
    let none = ap (λ (m : LocalState _). m.due) c.self.view_is ∙ c.requires.settled in let shut : l.own.guards ≡ 0 = search rules in
    let guards : own.guards ≡ 0 = has_open count l.own c.arrive-goes_on.result own a.2 ∙ shut in let one : own.guards + 1 ≡ 1 = omega arith in
    let opened : nested own ≡ record own { guards = 1 } = λ d. record own { guards = one d } in
    let large : own.bags.room ≡ l.own.bags.room = has_room count l.own c.arrive-goes_on.result own a.2 in (
      subst (λ (o : Participant). IsBetweenCalls b l.place o c.arrive-goes_on.new.seat) opened
          (subst (λ (t : TableFacts). IsBetweenCalls t l.place (nested own) c.arrive-goes_on.new.seat) (at_table i.0) c.arrive-goes_on.ensures.between_calls),
      i.1,
      record {
        units = (let s = ap (λ (t : Section). t.units) c.split.ensures.rest in let t = ap (λ (t : Section). t.units) c.set.ensures in
            let u = i.2.units in omega arith);
        kind = ap (λ (t : Section). t.kind) c.split.ensures.rest ∙ ap (λ (t : Section). t.kind) c.set.ensures;
      },
      subst (λ (z : ℕ × CarriedFractions). AreLentTo z.0 z.1) (λ d. (
        (sym (ap (λ (t : Section). t.lifetime) c.split.ensures.rest
            ∙ ap (λ (t : Section). t.lifetime) c.set.ensures)) d,
        sym arrives.others d,
      )) i.3,
      record {
        bags = subst (λ (z : SlotsView × List LimboEntry). AreInBags (slots_of b) (known_waiting z.0) own.bags.waiting z.1)
            (λ d. (sym arrives.slots d, sym a.3 d))
            (bags_arrived count l.own (slots_of b) c.arrive-goes_on.result own a.2 l.seat.me.0.slots l.due.items i.4.bags none);
        told = subst (TellsCollectors (slots_of b) l.privates.entries) (sym (ap (λ (s : SlotsView). s.privates) arrives.slots))
            (told_aged count l.own (slots_of b) l.privates.entries l.seat.me.0.slots i.4.told);
        large = subst (λ (n : ℕ). n ≤ c.arrive-goes_on.new.due.room) (sym large) c.arrive-goes_on.ensures.room;
        slots = i.4.slots;
        places = i.4.places;
        jobs = still_jobs (slots_of b) (sizes_of b).jobs l.jobs l.seat.me.0.slots.waits i.4.jobs c.arrive-goes_on.new.seat.me.0.slots.waits
            (λ j low. ap (λ (s : SlotsView). total (waits_in (slots_of b + j)) s.waits) arrives.slots
            ∙ same_aged count l.own (slots_of b + j) l.seat.me.0.slots.waits);
      },
      subst (IsTallied 0 l.tally) (sym (ap (λ (s : FractionsView). s.counts) arrives.fractions)) i.5,
    )

pub returns-clause-entered : goal.returns-clause-entered
returns-clause-entered g c = let l = c.self.inside in let i = c.self.invariant in let a = c.arrive-goes_on.ensures.arrived in let count : ℕ = a.0 in
    let arrives = a.1 in let has = a.2 in let old : LocalState _ = c.self.view_is 0 in let own : Participant = c.arrive-goes_on.new.own in
    let seat = c.arrive-goes_on.new.seat in let shut : l.own.guards ≡ 0 = search rules in
    let guards : own.guards ≡ 0 = has_open count l.own c.arrive-goes_on.result own has ∙ shut in let one : 1 ≡ own.guards + 1 = omega arith in
    let opened : record own { guards = 1 } ≡ nested own = λ d. record own { guards = one d } in
    let section = ap (λ (t : Section). record t { units = 0; kind = Closed }) c.split.ensures.rest
    ∙ ap (λ (t : Section). record t { units = 0; kind = Closed }) c.set.ensures in
    let now : LocalState _ = record (with_view old seat.table_id seat.me.0) {
      reader = record { home = c.split.new.self.home; number = c.split.new.self.number };
      own = record own { guards = 1 };
      due = c.arrive-goes_on.new.due.items;
    } in let m : LocalState _ = record old {
      own = nested (arrived_at count old.own);
      known = seat.me.0.epoch.since;
      since = seat.me.0.epoch.since;
      slots = aged_slots_at count old.own old.slots;
      due = due_at count old.own;
    } in let entered : IsEntered count old m = record {
      member = refl;
      knew = arrives.knew;
      knows = arrives.knows;
      lone = λ one_place. arrives.lone (i.0.all ∙ (ap (λ (z : Sizes). z.participants) l.domain.now.limited.1 ∙ one_place));
    } in let with_it : (x : Participant) → record own { guards = 1 } ≡ x → now ≡ record m { own = x } = λ x e d. record m {
      home = arrives.table d;
      reader = record { home = (section d).home; number = (section d).number };
      own = e d;
      known = arrives.known d;
      sizes = arrives.sizes d;
      slots = arrives.slots d;
      shown = (arrives.fractions d).sees;
      filled = (arrives.fractions d).filled;
      words = arrives.words d;
      due = a.3 d;
    } in let goes : GoesOn count c.arrive-goes_on.result old m now = record {
      change = λ t. let h = has.change t in (h.0, with_it (nested (arrived_at count l.own)) (opened ∙ ap nested h.1));
      over = λ f. ⊎_elim
          (λ (h : (l.own.found ≡ count) × (own ≡ arrived_at count l.own)). inl (h.0, with_it (nested (arrived_at count l.own)) (opened ∙ ap nested h.1)))
          (λ (h : (l.own.found ≢ count) × (l.own.bags.waiting ≡ []) × (own ≡ settled (arrived_at count l.own))).
          inr (h.0, due_moved count l.own h.0 ∙ quiet_due l.own h.1, with_it (settled (nested (arrived_at count l.own))) (opened ∙ ap nested h.2)))
          (has.over f);
      idle = λ f other. ⊎_elim (λ (h : (l.own.found ≡ count) × (own ≡ arrived_at count l.own)). absurd (other h.0))
          (λ (h : (l.own.found ≢ count) × (l.own.bags.waiting ≡ []) × (own ≡ settled (arrived_at count l.own))). h.1) (has.over f);
    } in (
      count,
      m,
      subst (λ (o : LocalState _). IsEntered count o m) c.self.view_is entered,
      subst (λ (o : LocalState _). GoesOn count c.arrive-goes_on.result o m now) c.self.view_is goes,
    )

use Rattle.std.proofs.Common.{◌≡◌, ℕ, ◌≤◌, List, [], Some, refl, sym, ap, ◌∙◌, subst, arith}
use Rattle.std.specs.Prelude.{Bool}
use Rattle.sdd_atomics.specs.TableFacts.{facts_of, places_of, slots_of, most_waiting_of}
use Rattle.sdd_participants.specs.Collecting.{is_kept_for, rest_of}
use Rattle.sdd_participants.specs.Waiting.{Waiting}
use Rattle.sdd_participants.specs.declared.participant.Participant.{Participant}
use Rattle.sdd_participants.specs.declared.waiting.LimboEntry.{LimboEntry}
use Rattle.sdd_rights.specs.Owner.{witness_of_cell}
use Rattle.sdd_rights.specs.Right.{raw_number_of}
use Rattle.sdd_rights.specs.declared.views.CellKind.TheVariants.{Collector as of_closed}
use Rattle.sdd_rights.specs.declared.views.Sizes.{Sizes}
use Rattle.sdd_rights.specs.declared.views.View.{View}
use Rattle.sdd_domain_invariant.specs.Slots.{waits_in}
use Rattle.sdd_domain_invariant.proofs.Sums.{is_same, total_has}
use Rattle.sdd_domain_steps.specs.BetweenCalls.{AreLentTo, IsBetweenCalls, AgreesWithView}
use Rattle.sdd_domain_core.specs.Collectors.{BeginsClose}
use Rattle.sdd_domain_steps.specs.InBags.{AreInBags, known_waiting}
use Rattle.sdd_domain_steps.specs.LocalState.{LocalState}
use Rattle.sdd_domain_steps.specs.PrivateTable.{standings_of}
use Rattle.sdd_domain_steps.specs.Receipt.{IsTallied}
use Rattle.sdd_domain_core.proofs.CloseBetweenCalls.{between_calls_closing, between_calls_lighter}
use Rattle.sdd_domain_steps.proofs.InBags.{begins_close, known_once, room_enough}
use Rattle.sdd_domain_steps.proofs.PrivateTables.{choice_plain, choice_private}
use Rattle.sdd_domain_core.proofs.local_core.LocalCore.begin_close.Goals as goal

pub take_for-requires-clause-room : goal.take_for-requires-clause-room
take_for-requires-clause-room g c = let l = c.self.inside in let b = (facts_of l.domain.now.table) in let i = c.self.invariant in
    let many = room_enough (slots_of b) (known_waiting l.seat.me.0.slots) l.own.bags.waiting l.due.items i.4.bags (most_waiting_of b)
    (omega arith) i.0.waiting in
    let room = i.0.room in let large = i.4.large in omega arith

pub invariant_of-self : goal.invariant_of-self
invariant_of-self g c = let l = c.self.inside in let b = (facts_of l.domain.now.table) in let i = c.self.invariant in let r = i.4 in let n : ℕ = slots_of b in
    let k : ℕ = c.number-cell.result in let v : View = l.seat.me.0 in let u = c.begin_where_shut.new.seat in let begun = c.in-Ok.ensures.begun.0.seat in
    let chosen : LimboEntry → Bool = is_kept_for k (standings_of l.privates.entries) in
    let due : l.due.items ≡ [] = ap (λ (m : LocalState _). m.due) c.self.view_is ∙ c.requires.settled in
    let left : List Waiting = rest_of chosen l.own.bags.waiting in
    let own : record l.own { bags = record l.own.bags { waiting = left } } ≡ record l.own { bags = c.take_for.new.bags }
    = (λ d. record l.own { bags = sym c.take_for.ensures.kept d }) in
    let between_calls = between_calls_lighter b l.place l.own left u
    (between_calls_closing b l.place l.own l.seat u (Some k) l.seat.me.0.sizes.participants i.0 begun.table begun.others begun.view (λ none. absurd cc))
    (λ none. ap (rest_of chosen) none) in
    let bags = begins_close n (known_waiting v.slots) l.own.bags.waiting l.due.items r.bags chosen k due
    (λ j x at. let once = known_once n (known_waiting v.slots) l.own.bags.waiting l.due.items r.bags x.slot in
    let one = is_same x.slot x.slot refl in let has = total_has (waits_in x.slot) v.slots.waits j x at in
    choice_plain n l.privates.entries v.slots.privates r.told k x (omega arith))
    (λ j x at. choice_private n l.privates.entries v.slots.privates r.told k j x at) in (
      subst (λ (o : Participant). IsBetweenCalls b l.place o u) own between_calls,
      i.1,
      record { units = i.2.units; kind = i.2.kind },
      subst (AreLentTo l.section.lifetime) (sym begun.others) i.3,
      subst (λ (w : View). AgreesWithView b (record l.own { bags = c.take_for.new.bags }) c.take_for.new.self l.known.slots l.jobs l.privates.entries
          (known_waiting w.slots))
          (sym begun.view) record {
            bags = subst (λ (z : List Waiting × List LimboEntry). AreInBags n (record (known_waiting v.slots) { closes = Some k }) z.0 z.1)
                (λ d. ((sym c.take_for.ensures.kept d).waiting, sym c.take_for.ensures.taken d)) bags;
            large = let kept = ap (λ (o : Participant). o.bags.room) own in let large = r.large in let room = c.take_for.ensures.room in omega arith;
            slots = r.slots;
            told = r.told;
            places = r.places;
            jobs = r.jobs;
          },
      subst (λ (w : View). IsTallied 0 l.tally w.fractions.counts) (sym begun.view) i.5,
    )

pub returns-in-Ok-clause-begun : goal.returns-in-Ok-clause-begun
returns-in-Ok-clause-begun g c = let l = c.self.inside in let b = (facts_of l.domain.now.table) in let i = c.self.invariant in
    let k : ℕ = c.number-cell.result in
    let v : View = l.seat.me.0 in let u = c.begin_where_shut.new.seat in let ok = c.in-Ok.ensures.begun in let begun = ok.0.seat in
    let number : k ≡ raw_number_of c.args.collector = c.number-cell.ensures in let kept = c.take_for.ensures.kept in
    let taken = c.take_for.ensures.taken in let shut = ok.0.shut in
    let looked_there = ap (λ (w : View). w.slots.looked) begun.view in
    let looked : u.me.0.slots.looked ≡ places_of b = looked_there ∙ ap (λ (z : Sizes). z.participants) i.0.knows.0 in
    let all = ap (λ (z : Sizes). z.participants) l.domain.now.limited.1 in
    let wide : l.domain.now.limits.participants ≤ u.me.0.slots.looked = omega arith in
    let slots : u.me.0.slots ≡ record v.slots { closes = Some k; looked = u.me.0.slots.looked }
    = ap (λ (w : View). w.slots) begun.view ∙ (λ d. record v.slots { closes = Some k; looked = sym looked_there d }) in
    let old : LocalState g.row.J.Denot = c.self.view_is 0 in let new : LocalState g.row.J.Denot = record old {
      home = u.table_id;
      own = record l.own { bags = c.take_for.new.bags };
      known = u.me.0.epoch.known;
      since = u.me.0.epoch.since;
      sizes = u.me.0.sizes;
      slots = u.me.0.slots;
      shown = u.me.0.fractions.sees;
      filled = u.me.0.fractions.filled;
      words = u.me.0.words;
      due = c.take_for.new.self.items;
    } in (
      subst (λ (z : ℕ × LocalState g.row.J.Denot). BeginsClose z.0 z.1 new) (λ d. (number d, c.self.view_is d)) record {
        member = λ d. record old {
          home = begun.table d;
          own = record l.own { bags = kept d };
          known = (begun.view d).epoch.known;
          since = (begun.view d).epoch.since;
          sizes = (begun.view d).sizes;
          slots = slots d;
          shown = (begun.view d).fractions.sees;
          filled = (begun.view d).fractions.filled;
          words = (begun.view d).words;
          due = taken d;
        };
        closing = record {
          closes = ap (λ (w : View). w.slots.closes) begun.view;
          looked = wide;
          shut = λ some_open. shut (i.0.opened some_open);
        };
      },
      ok.1 ∙ ap (λ (m : LocalState _). m.home) c.self.view_is,
      ok.2 ∙ ap (λ (j : ℕ). witness_of_cell j of_closed) number,
    )

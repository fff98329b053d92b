use Rattle.std.proofs.Common.{◌≡◌, ℕ, ◌+◌, ◌<◌, List, None, length, refl, sym, ap, ◌∙◌, subst, arith, slice_index_or, length-set}
use Rattle.std.specs.Prelude.{◌↔◌, Option, IsSome}
use Rattle.sdd_participants.specs.declared.waiting.LimboEntry.TheVariants.{Job}
use Rattle.sdd_participants.specs.declared.participant.Participant.{Participant}
use Rattle.sdd_participants.specs.Bags.{Bags}
use Rattle.sdd_participants.specs.EpochState.{awaiting, with_garbage}
use Rattle.sdd_rights.specs.declared.views.WaitingItem.{WaitingItem}
use Rattle.sdd_rights.specs.declared.views.View.{View}
use Rattle.sdd_rights.specs.declared.views.Sizes.{Sizes}
use Rattle.sdd_domain_invariant.specs.Sums.{total}
use Rattle.sdd_domain_invariant.specs.Slots.{waits_in}
use Rattle.sdd_domain_invariant.specs.Slots.SlotSteps.{retired_now, DefersAt}
use Rattle.sdd_atomics.specs.TableFacts.{facts_of, most_waiting_of, sizes_of, slots_of}
use Rattle.sdd_domain_steps.specs.LocalState.{LocalState, DefersTo}
use Rattle.sdd_domain_steps.specs.BetweenCalls.{IsBetweenCalls, AreLentTo, IsSectionOf, AgreesWithView}
use Rattle.sdd_domain_steps.specs.InBags.{AreInBags, KnownWaiting, TellsCollectors, known_waiting}
use Rattle.sdd_domain_steps.specs.Receipt.{IsTallied}
use Rattle.sdd_domain_core.proofs.JobsBetweenCalls.{between_calls_defers}
use Rattle.sdd_domain_core.proofs.JobTables.{job_put, not-there}
use Rattle.sdd_domain_steps.proofs.LocalLooks.{with_view}
use Rattle.sdd_domain_steps.proofs.InBags.{job_plain, one_more, room_left}
use Rattle.sdd_domain_steps.proofs.Reclaims.{what_job}
use Rattle.sdd_domain_core.specs.Noted.{HasNoted}
use Rattle.sdd_domain_core.proofs.local_core.LocalCore.defer_execute.Goals as goal

pub put-requires-clause-free : goal.put-requires-clause-free
put-requires-clause-free g c = let l = c.self.inside in let b = (facts_of l.domain.now.table) in let n : ℕ = slots_of b in let place : ℕ = c.in-Ok.place in
    let did = c.in-Ok.ensures.tried.1 in
    let d = subst (λ (k : ℕ). DefersAt (k + place) 4 l.seat.me.0 c.claim_place.new.seat.me.0) (sym (ap (λ (z : Sizes). z.slots) l.domain.now.limited.1))
    did.view in
    let low : place < (sizes_of b).jobs = subst (λ (z : Sizes). place < z.jobs) (sym l.domain.now.limited.1) c.in-Ok.ensures.tried.0 in
    not-there (slice_index_or l.jobs place None) (λ some. let waits = (c.self.invariant.4.jobs place low).0 some in let none = d.6 in absurd (omega arith))

pub push-requires : goal.push-requires
push-requires g c = let l = c.self.inside in let q = c.self.invariant.0 in let r = c.self.invariant.4 in let b = (facts_of l.domain.now.table) in
    let n : ℕ = slots_of b in
    let place : ℕ = c.in-Ok.place in
    let d = subst (λ (k : ℕ). DefersAt (k + place) 4 l.seat.me.0 c.claim_place.new.seat.me.0) (sym (ap (λ (z : Sizes). z.slots) l.domain.now.limited.1))
    c.in-Ok.ensures.tried.1.view in
    let low : place < (sizes_of b).jobs = subst (λ (z : Sizes). place < z.jobs) (sym l.domain.now.limited.1) c.in-Ok.ensures.tried.0 in
    let left = room_left n (known_waiting l.seat.me.0.slots) l.own.bags.waiting l.due.items r.bags (most_waiting_of b) (n + place) (omega arith) q.waiting
    (omega arith) d.6 (job_plain n (known_waiting l.seat.me.0.slots) l.own.bags.waiting l.due.items r.bags place) in
    let most = q.room in record { room = omega arith }

pub invariant_of-self : goal.invariant_of-self
invariant_of-self g c = let l = c.self.inside in let b = (facts_of l.domain.now.table) in let i = c.self.invariant in let r = i.4 in let n : ℕ = slots_of b in
    let place : ℕ = c.in-Ok.place in let seat = c.claim_place.new.seat in let waits : List WaitingItem = l.seat.me.0.slots.waits in
    let did = c.in-Ok.ensures.tried.1 in
    let own_is : c.set_has_garbage.new.self ≡ awaiting (Job place) l.own
    = c.set_has_garbage.ensures ∙ ap (λ (bags : Bags). with_garbage (record l.own { bags = bags })) c.push.ensures in
    let d = subst (λ (k : ℕ). DefersAt (k + place) 4 l.seat.me.0 seat.me.0) (sym (ap (λ (z : Sizes). z.slots) l.domain.now.limited.1)) did.view in
    let low : place < (sizes_of b).jobs = subst (λ (z : Sizes). place < z.jobs) (sym l.domain.now.limited.1) c.in-Ok.ensures.tried.0 in
    let inside : place < length l.jobs = (let long = r.places in omega arith) in
    subst (λ (o : Participant). IsBetweenCalls b l.place o seat × HasNoted b l.domain.now.limits l.place l.nesting l.state × IsSectionOf o l.section
    × AreLentTo l.section.lifetime seat.me.1 × AgreesWithView {J = g.row.J.Denot} b o l.due l.known.slots c.put.new.self l.privates.entries
    (known_waiting seat.me.0.slots)
    × IsTallied 0 l.tally seat.me.0.fractions.counts) (sym own_is) (
      between_calls_defers b l.place l.own l.seat seat i.0 did.table did.others place (omega arith) d,
      i.1,
      record { units = i.2.units; kind = i.2.kind },
      subst (AreLentTo l.section.lifetime) (sym did.others) i.3,
      record {
        bags = subst (λ (k : KnownWaiting). AreInBags n k (awaiting (Job place) l.own).bags.waiting l.due.items)
            (sym (ap (λ (v : View). known_waiting v.slots) d.3))
            (one_more n (known_waiting l.seat.me.0.slots) l.own.bags.waiting l.due.items r.bags (retired_now (n + place) d.0) (Job place) refl
            (what_job n (retired_now (n + place) d.0) (omega arith) ∙ ap (λ (k : ℕ). Job k) (omega arith)) d.6
            (job_plain n (known_waiting l.seat.me.0.slots) l.own.bags.waiting l.due.items r.bags place));
        told = subst (TellsCollectors n l.privates.entries) (sym (ap (λ (v : View). v.slots.privates) d.3)) r.told;
        large = r.large;
        slots = r.slots;
        places = ap length c.put.ensures ∙ (length-set l.jobs place _ ∙ r.places);
        jobs = λ j near. subst (λ (z : List (Option g.row.J.Denot) × List WaitingItem).
            IsSome (slice_index_or z.0 j None) ↔ (0 < total (waits_in (n + j)) z.1))
            (λ k. (sym c.put.ensures k, ap (λ (v : View). v.slots.waits) (sym d.3) k))
            (job_put n (sizes_of b).jobs l.jobs waits r.jobs place inside c.args.job d.0 j near);
      },
      subst (IsTallied 0 l.tally) (sym (ap (λ (v : View). v.fractions.counts) d.3)) i.5,
    )

pub returns-in-Ok : goal.returns-in-Ok
returns-in-Ok g c = let l = c.self.inside in let i = c.self.invariant in let place : ℕ = c.in-Ok.place in let seat = c.claim_place.new.seat in
    let did = c.in-Ok.ensures.tried.1 in let d = did.view in let old : LocalState _ = c.self.view_is 0 in
    let own_is : c.set_has_garbage.new.self ≡ awaiting (Job place) l.own
    = c.set_has_garbage.ensures ∙ ap (λ (bags : Bags). with_garbage (record l.own { bags = bags })) c.push.ensures in
    let all : l.seat.me.0.epoch.all ≡ l.domain.now.limits.participants = i.0.all ∙ ap (λ (z : Sizes). z.participants) l.domain.now.limited.1 in (
      d.0,
      subst (λ (m : LocalState _). DefersTo place d.0 c.args.job m
          (record (with_view old seat.table_id seat.me.0) { own = c.set_has_garbage.new.self; jobs = c.put.new.self })) c.self.view_is record {
            inside = c.in-Ok.ensures.tried.0;
            member = λ k. record (with_view old (did.table k) (d.3 k)) {
              own = own_is k;
              jobs = c.put.ensures k;
            };
            first = d.6;
            knew = d.1;
            lone = λ one. (d.2 (all ∙ one), did.free (all ∙ one));
          },
    )

use Rattle.std.proofs.Common.{◌≡◌, ℕ, ◌+◌, ◌<◌, ◌≤◌, ◌∷◌, List, Some, None, length, refl, sym, ap, ◌∙◌, subst, arith, slice_index_or, length-set}
use Rattle.std.proofs.lemmas.Bool.{true≢false}
use Rattle.std.specs.Prelude.{◌↔◌, Option, IsSome}
use Rattle.sdd_participants.specs.declared.waiting.LimboEntry.TheVariants.{Job}
use Rattle.sdd_rights.specs.declared.views.WaitingItem.{WaitingItem}
use Rattle.sdd_rights.specs.declared.views.View.{View}
use Rattle.sdd_rights.specs.declared.views.Sizes.{Sizes}
use Rattle.sdd_domain_invariant.specs.Sums.{total}
use Rattle.sdd_domain_invariant.specs.Slots.{waits_in}
use Rattle.sdd_domain_invariant.specs.Slots.SlotSteps.{IsDue}
use Rattle.sdd_domain_invariant.specs.Fractions.FractionSteps.{GivesPlace}
use Rattle.sdd_atomics.specs.DomainSeat.{Moved}
use Rattle.sdd_atomics.specs.TableFacts.{facts_of, sizes_of, slots_of}
use Rattle.sdd_domain_steps.specs.LocalState.{LocalState, TakesJob}
use Rattle.sdd_domain_steps.specs.BetweenCalls.{AreLentTo}
use Rattle.sdd_domain_steps.specs.Receipt.{IsTallied}
use Rattle.sdd_domain_steps.specs.InBags.{AreInBags, KnownWaiting, TellsCollectors, known_waiting}
use Rattle.sdd_domain_core.proofs.JobsBetweenCalls.{between_calls_takes, place_low, waits_now}
use Rattle.sdd_domain_core.proofs.JobTables.{next_goes, job_taken}
use Rattle.sdd_domain_steps.proofs.LocalLooks.{with_view}
use Rattle.sdd_domain_steps.proofs.InBags.{first_plain, first_plain_out, job_plain}
use Rattle.sdd_domain_core.proofs.local_core.LocalCore.take_job.Given.{Over}
use Rattle.sdd_domain_core.proofs.local_core.LocalCore.take_job.Goals.{After-next}
use Rattle.sdd_domain_core.proofs.local_core.LocalCore.take_job.Goals as goal

-- the job's place was the first that was due
first_due : (g : Over) (c : After-next g) → c.self.inside.due.items ≡ Job c.args.place ∷ c.next.new.self.items
first_due g c = next_goes c.self.inside.due c.next.new.self c.next.result (Job c.args.place) c.requires.first.0 c.next.ensures.next
    (ap (λ (m : LocalState _). m.due) c.self.view_is ∙ c.requires.first.1)

is_low : (g : Over) (c : After-next g) → c.args.place < (sizes_of (facts_of c.self.inside.domain.now.table)).jobs
is_low g c = let l = c.self.inside in place_low (slots_of (facts_of l.domain.now.table)) (known_waiting l.seat.me.0.slots) l.own.bags.waiting l.due.items
    c.self.invariant.4.bags c.args.place c.next.new.self.items (first_due g c) (sizes_of (facts_of l.domain.now.table)).jobs c.self.invariant.0.waiting

pub take-job-requires : goal.take-job-requires
take-job-requires g c = let low = is_low g (goal.at.take-job-requires g c).After-next in let long = c.self.invariant.4.places in omega arith

pub overflow_add-slots : goal.overflow_add-slots
overflow_add-slots g c = let low = is_low g (goal.at.overflow_add-slots g c).After-next in
    let slots = ap (λ (z : Sizes). z.slots) c.self.inside.domain.now.limited.1 in
    let jobs = ap (λ (z : Sizes). z.jobs) c.self.inside.domain.now.limited.1 in let few = c.self.inside.domain.now.limited.0 in
    let few_slots = few.slots in let few_jobs = few.jobs in omega arith

pub give_place_back-requires-clause-inside : goal.give_place_back-requires-clause-inside
give_place_back-requires-clause-inside g c = let low = is_low g (goal.at.give_place_back-requires-clause-inside g c).After-next in
    let slots = ap (λ (z : Sizes). z.slots) c.self.inside.domain.now.limited.1 in
    let seat_slots = ap (λ (z : Sizes). z.slots) c.self.invariant.0.knows.0 in let seat_jobs = ap (λ (z : Sizes). z.jobs) c.self.invariant.0.knows.0 in
    (omega arith, omega arith)

pub give_place_back-requires-clause-due : goal.give_place_back-requires-clause-due
give_place_back-requires-clause-due g c = let first = first_due g (goal.at.give_place_back-requires-clause-due g c).After-next in let l = c.self.inside in
    let b = (facts_of l.domain.now.table) in
    subst (λ (k : ℕ). IsDue l.seat.me.0 (k + c.args.place)) (ap (λ (z : Sizes). z.slots) l.domain.now.limited.1)
    (first_plain (slots_of b) (known_waiting l.seat.me.0.slots) l.own.bags.waiting l.due.items c.self.invariant.4.bags (Job c.args.place)
    c.next.new.self.items first (job_plain (slots_of b) (known_waiting l.seat.me.0.slots) l.own.bags.waiting l.due.items c.self.invariant.4.bags c.args.place))

pub invariant_of-self : goal.invariant_of-self
invariant_of-self g c = let first = first_due g (goal.at.invariant_of-self g c).After-next in
    let low = is_low g (goal.at.invariant_of-self g c).After-next in let l = c.self.inside in let b = (facts_of l.domain.now.table) in
    let i = c.self.invariant in
    let r = i.4 in let n : ℕ = slots_of b in
    let place : ℕ = c.args.place in let seat = c.give_place_back.new.seat in let waits : List WaitingItem = l.seat.me.0.slots.waits in
    let gives = subst (λ (k : ℕ). Moved (GivesPlace (k + place)) l.seat 0 seat) (sym (ap (λ (z : Sizes). z.slots) l.domain.now.limited.1))
    c.give_place_back.ensures in
    let inside : place < length l.jobs = (let long = r.places in omega arith) in (
      between_calls_takes b l.place l.own l.seat seat i.0 gives.0 gives.2.0 place gives.2.1,
      i.1,
      i.2,
      subst (AreLentTo l.section.lifetime) (sym gives.2.0) i.3,
      record {
        bags = subst (λ (k : KnownWaiting). AreInBags n k l.own.bags.waiting c.next.new.self.items) (sym (ap (λ (v : View). known_waiting v.slots) gives.2.1.0))
            (first_plain_out n (known_waiting l.seat.me.0.slots) l.own.bags.waiting l.due.items r.bags (Job place) c.next.new.self.items first gives.2.1.1);
        told = subst (TellsCollectors n l.privates.entries) (sym (ap (λ (v : View). v.slots.privates) gives.2.1.0)) r.told;
        large = subst (λ (n : ℕ). l.own.bags.room ≤ n) (sym c.next.ensures.room) r.large;
        slots = r.slots;
        places = ap length c.take-job.ensures.free ∙ (length-set l.jobs place None ∙ r.places);
        jobs = λ j near. subst (λ (z : List (Option g.row.J.Denot) × List WaitingItem).
            IsSome (slice_index_or z.0 j None) ↔ (0 < total (waits_in (n + j)) z.1))
            (λ d. (sym c.take-job.ensures.free d, ap (λ (v : View). v.slots.waits) (sym gives.2.1.0) d))
            (job_taken n (sizes_of b).jobs l.jobs waits r.jobs place inside j near);
      },
      subst (IsTallied 0 l.tally) (sym (ap (λ (v : View). v.fractions.counts) gives.2.1.0)) i.5,
    )

some_of : {A : Type 0} (o : Option A) → IsSome o → (x : A) × o ≡ Some x
some_of (Some x) is = (x, refl)
some_of None is = absurd (true≢false (sym is))

pub returns : goal.returns
returns g c =
    let first = first_due g (goal.at.returns g c).After-next in let low = is_low g (goal.at.returns g c).After-next in
    let wait = waits_now (slots_of (facts_of c.self.inside.domain.now.table)) (known_waiting c.self.inside.seat.me.0.slots) c.self.inside.own.bags.waiting
    c.self.inside.due.items c.self.invariant.4.bags c.args.place c.next.new.self.items first in
    let l = c.self.inside in let b = (facts_of l.domain.now.table) in let r = c.self.invariant.4 in let place : ℕ = c.args.place in
    let there = some_of (slice_index_or l.jobs place None) ((r.jobs place low).1 (omega arith)) in let rest = c.next.new.self.items in
    let seat = c.give_place_back.new.seat in let old : LocalState _ = c.self.view_is 0 in let gives = c.give_place_back.ensures in
    let now : LocalState _ = record (with_view old seat.table_id seat.me.0) { due = rest; jobs = c.take-job.new.self } in (
      there.0,
      c.take-job.ensures.job ∙ there.1,
      subst (λ (m : LocalState _). TakesJob place there.0 m now) c.self.view_is record {
        inside = subst (λ (z : Sizes). place < z.jobs) l.domain.now.limited.1 low;
        first = first;
        there = there.1;
        member = λ d. record (with_view old (gives.0 d) (gives.2.1.0 d)) {
          due = rest;
          jobs = c.take-job.ensures.free d;
        };
        once = gives.2.1.1;
      },
    )

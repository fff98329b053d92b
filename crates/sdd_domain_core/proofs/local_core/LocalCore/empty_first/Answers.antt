use Rattle.sdd_domain_core.proofs.AtTable.{fits_from}
use Rattle.std.proofs.Common.{◌≡◌, ℕ, ◌+◌, ◌<◌, ◌≤◌, List, Option, refl, sym, ap, ◌∙◌, subst, arith}
use Rattle.sdd_shared_values.specs.SharedValues.{showing}
use Rattle.sdd_participants.specs.Slab.{entry_at}
use Rattle.sdd_participants.specs.Tally.{one_reclaimed}
use Rattle.sdd_participants.specs.declared.tally.Tally.{Tally}
use Rattle.sdd_participants.specs.declared.waiting.LimboEntry.TheVariants.{Item}
use Rattle.sdd_rights.specs.declared.views.PrivateItem.{PrivateItem}
use Rattle.sdd_rights.specs.declared.views.Sizes.{Sizes}
use Rattle.sdd_rights.specs.declared.views.View.{View}
use Rattle.sdd_domain_invariant.specs.Sums.{total}
use Rattle.sdd_domain_invariant.specs.Slots.{waits_in}
use Rattle.sdd_atomics.specs.TableFacts.{facts_of, sizes_of, slots_of}
use Rattle.sdd_world_model.specs.OwnerOrCell.{AreOf}
use Rattle.sdd_domain_steps.specs.BetweenCalls.{AreLentTo}
use Rattle.sdd_domain_steps.specs.InBags.{TellsCollectors, known_waiting}
use Rattle.sdd_domain_steps.specs.LocalState.{LocalState, Reclaims}
use Rattle.sdd_domain_steps.specs.Receipt.{IsTallied}
use Rattle.sdd_domain_steps.specs.SpaceIds.{home_in}
use Rattle.sdd_domain_core.proofs.FirstClaims.{lost_bags, lost_between_calls, emptied_bags, emptied_between_calls}
use Rattle.sdd_domain_steps.proofs.SameHome.{on_table, from_table}
use Rattle.sdd_domain_steps.proofs.InBags.{first_once, first_slot, known_in, known_once, none_plain}
use Rattle.sdd_domain_core.proofs.JobTables.{next_goes, still_jobs}
use Rattle.sdd_domain_steps.proofs.LocalLooks.{with_view}
use Rattle.sdd_domain_steps.proofs.PrivateTables.{told_in, told_out, told_some}
use Rattle.sdd_domain_core.proofs.Tallies.{tallied_reclaimed}
use Rattle.sdd_domain_core.proofs.local_core.LocalCore.empty_first.Goals as goal

pub empty_own-requires-clause-waits : goal.empty_own-requires-clause-waits
empty_own-requires-clause-waits g c = let l = c.self.inside in let r = c.self.invariant.4 in
    let one = told_some (slots_of (facts_of l.domain.now.table)) l.privates.entries l.seat.me.0.slots.privates r.told c.args.slot c.args.collector
    (ap (λ (m : LocalState _). entry_at m.collectors c.args.slot) c.self.view_is ∙ c.requires.kept) in (one.1, (one.0, one.2), one.3, one.4)

-- a close of another came first
pub invariant_of-self : goal.invariant_of-self
invariant_of-self g c = let l = c.self.inside in let b = (facts_of l.domain.now.table) in let i = c.self.invariant in let r = i.4 in
    let n : ℕ = slots_of b in let slot : ℕ = c.args.slot in let s = l.seat in let u = c.empty_own.new.seat in let lets = c.in_err-value.ensures.emptied in
    let due = ap (λ (m : LocalState _). m.due) c.self.view_is ∙ c.requires.first.1 in
    let next = next_goes l.due c.next.new.self c.next.result (Item slot) c.requires.first.0 c.next.ensures.next due in
    let low = first_slot n (known_waiting s.me.0.slots) l.own.bags.waiting l.due.items r.bags slot c.requires.first.0 due in
    let there = told_in n l.privates.entries s.me.0.slots.privates r.told slot c.args.collector
    (ap (λ (m : LocalState _). entry_at m.collectors slot) c.self.view_is ∙ c.requires.kept) in (
      lost_between_calls b l.place l.own c.args.collector slot s u lets i.0,
      i.1,
      i.2,
      subst (AreLentTo l.section.lifetime) (sym lets.seat.others) i.3,
      record {
        bags = lost_bags b l.place l.own c.args.collector slot s u lets l.own.bags.waiting l.due.items c.next.new.self.items r.bags next there;
        large = subst (λ (k : ℕ). l.own.bags.room ≤ k) (sym c.next.ensures.room) r.large;
        slots = c.in_err-value.ensures.known ∙ r.slots;
        told = subst (λ (z : List (Option ℕ) × List PrivateItem). TellsCollectors n z.0 z.1)
            (λ d. (sym c.take.ensures.taken d, sym (ap (λ (v : View). v.slots.privates) lets.seat.view) d))
            (told_out n l.privates.entries s.me.0.slots.privates r.told slot low);
        places = r.places;
        jobs = still_jobs n (sizes_of b).jobs l.jobs s.me.0.slots.waits r.jobs u.me.0.slots.waits
            (λ j _. ap (λ (v : View). total (waits_in (n + j)) v.slots.waits) lets.seat.view);
      },
      subst (IsTallied 0 l.tally) (sym (ap (λ (v : View). v.fractions.counts) lets.seat.view)) i.5,
    )

-- it was emptied
pub invariant_of-self-2 : goal.invariant_of-self-2
invariant_of-self-2 g c = let l = c.self.inside in let b = (facts_of l.domain.now.table) in let i = c.self.invariant in let r = i.4 in
    let n : ℕ = slots_of b in let slot : ℕ = c.args.slot in let s = l.seat in let u = c.empty_own.new.seat in let empties = c.in_ok-value.ensures.emptied in
    let due = ap (λ (m : LocalState _). m.due) c.self.view_is ∙ c.requires.first.1 in
    let next = next_goes l.due c.next.new.self c.next.result (Item slot) c.requires.first.0 c.next.ensures.next due in
    let low = first_slot n (known_waiting s.me.0.slots) l.own.bags.waiting l.due.items r.bags slot c.requires.first.0 due in
    let there = told_in n l.privates.entries s.me.0.slots.privates r.told slot c.args.collector
    (ap (λ (m : LocalState _). entry_at m.collectors slot) c.self.view_is ∙ c.requires.kept) in (
      emptied_between_calls b l.place l.own slot (showing g.row.T c.in_ok-value.value) s u empties i.0,
      i.1,
      i.2,
      subst (AreLentTo l.section.lifetime) (sym empties.seat.others) i.3,
      record {
        bags = emptied_bags b l.place l.own slot (showing g.row.T c.in_ok-value.value) s u empties l.own.bags.waiting l.due.items c.next.new.self.items r.bags
            next there;
        large = subst (λ (k : ℕ). l.own.bags.room ≤ k) (sym c.next.ensures.room) r.large;
        slots = c.in_ok-value.ensures.known ∙ r.slots;
        told = subst (λ (z : List (Option ℕ) × List PrivateItem). TellsCollectors n z.0 z.1)
            (λ d. (sym c.take.ensures.taken d, sym (ap (λ (v : View). v.slots.privates) empties.seat.view) d))
            (told_out n l.privates.entries s.me.0.slots.privates r.told slot low);
        places = r.places;
        jobs = still_jobs n (sizes_of b).jobs l.jobs s.me.0.slots.waits r.jobs u.me.0.slots.waits
            (λ j _. ap (λ (v : View). total (waits_in (n + j)) v.slots.waits) empties.seat.view);
      },
      subst (λ (t : Tally). IsTallied 0 t u.me.0.fractions.counts) (sym c.count_reclaimed.ensures)
          (subst (IsTallied 0 (one_reclaimed l.tally)) (sym (ap (λ (v : View). v.fractions.counts) empties.seat.view))
          (tallied_reclaimed l.tally l.seat.me.0.fractions.counts i.5)),
    )

pub returns-clause-home : goal.returns-clause-home
returns-clause-home g c = let l = c.self.inside in let b = (facts_of l.domain.now.table) in let inv = c.self.invariant in let value = c.in_ok-value.value in
    subst (λ (m : LocalState _). AreOf (home_in m) (g.T.Item.holds value)) c.self.view_is
    (from_table b (c.self.view_is 0) (on_table l.domain.now.limits b l.seat.table_id inv.0.home l.domain.now.limited.1 (c.self.view_is 0) refl refl refl)
    (g.T.Item.holds value) (fits_from inv.0 (g.T.Item.holds value) c.in_ok-value.ensures.fits))

pub returns-clause-gone : goal.returns-clause-gone
returns-clause-gone g c = let l = c.self.inside in let b = (facts_of l.domain.now.table) in let inv = c.self.invariant in let r = inv.4 in
    let n : ℕ = slots_of b in let slot : ℕ = c.args.slot in let rest = c.next.new.self.items in let u = c.empty_own.new.seat in
    let known = known_waiting l.seat.me.0.slots in let due = ap (λ (m : LocalState _). m.due) c.self.view_is ∙ c.requires.first.1 in
    let next = next_goes l.due c.next.new.self c.next.result (Item slot) c.requires.first.0 c.next.ensures.next due in
    let empties = c.in_ok-value.ensures.emptied in let old : LocalState _ = c.self.view_is 0 in
    let all : l.seat.me.0.epoch.all ≡ l.domain.now.limits.participants = inv.0.all ∙ ap (λ (z : Sizes). z.participants) l.domain.now.limited.1 in
    let on = on_table l.domain.now.limits b l.seat.table_id inv.0.home l.domain.now.limited.1 old refl refl refl in
    let low = first_slot n known l.own.bags.waiting l.due.items r.bags slot rest next in
    let once = first_once n known l.own.bags.waiting l.due.items r.bags (Item slot) rest next in
    let both = known_in n known l.own.bags.waiting l.due.items r.bags slot in
    let there = told_in n l.privates.entries l.seat.me.0.slots.privates r.told slot c.args.collector
    (ap (λ (m : LocalState _). entry_at m.collectors slot) c.self.view_is ∙ c.requires.kept) in
    let none : total (waits_in slot) l.seat.me.0.slots.waits ≡ 0 = (let most = known_once n known l.own.bags.waiting l.due.items r.bags slot in omega arith) in
    let now : LocalState _ = record (with_view old u.table_id u.me.0) {
      tally = c.count_reclaimed.new.self;
      due = rest;
      collectors = c.take.new.self.entries;
    } in
    subst (λ (m : LocalState _). Reclaims slot (showing g.row.T c.in_ok-value.value) m now) c.self.view_is record {
      inside = subst (λ (k : ℕ). slot < k) (sym on.slots) low;
      first = next;
      member = λ d. record (with_view old (empties.seat.table d) (record (empties.seat.view d) {
        slots = record (empties.seat.view d).slots {
          waits = (ap (λ (v : View). v.slots.waits) empties.seat.view ∙ sym (none_plain slot l.seat.me.0.slots.waits none)) d;
        };
      })) { tally = c.count_reclaimed.ensures d; due = rest; collectors = c.take.ensures.taken d };
      once = omega arith;
      lone = λ one. empties.lone (all ∙ one);
    }

use Rattle.sdd_domain_core.proofs.AtTable.{fits_from}
use Rattle.std.proofs.Common.{◌≡◌, ℕ, ◌+◌, ◌<◌, ◌≤◌, refl, sym, ap, ◌∙◌, subst, arith}
use Rattle.sdd_shared_values.specs.SharedValues.{showing}
use Rattle.sdd_participants.specs.declared.waiting.LimboEntry.TheVariants.{Item}
use Rattle.sdd_participants.specs.declared.tally.Tally.{Tally}
use Rattle.sdd_participants.specs.Tally.{one_reclaimed}
use Rattle.sdd_rights.specs.declared.views.Sizes.{Sizes}
use Rattle.sdd_domain_invariant.specs.Sums.{total}
use Rattle.sdd_domain_invariant.specs.Slots.{waits_in}
use Rattle.sdd_domain_invariant.proofs.Slots.OwnerSteps.{item_kept}
use Rattle.sdd_atomics.specs.TableFacts.{facts_of, sizes_of, slots_of}
use Rattle.sdd_rights.specs.declared.views.View.{View}
use Rattle.sdd_world_model.specs.OwnerOrCell.{AreOf}
use Rattle.sdd_domain_steps.specs.SpaceIds.{home_in}
use Rattle.sdd_domain_steps.specs.LocalState.{LocalState}
use Rattle.sdd_domain_invariant.specs.Codes.{free_word}
use Rattle.sdd_domain_invariant.specs.Collectors.CollectorWordSteps.{without_private}
use Rattle.sdd_domain_invariant.specs.Slots.SlotSteps.{behind, without_item}
use Rattle.sdd_domain_invariant.specs.Slots.FilledInvariant.{newest}
use Rattle.sdd_participants.specs.Slab.{without_entry}
use Rattle.sdd_participants.specs.declared.waiting.LimboEntry.{LimboEntry}
use Rattle.std.specs.Prelude.{Bool, List, Some, slice_set}
use Rattle.sdd_domain_steps.specs.BetweenCalls.{AreLentTo}
use Rattle.sdd_domain_steps.specs.Receipt.{IsTallied}
use Rattle.sdd_domain_steps.specs.InBags.{AreInBags, KnownWaiting, TellsCollectors, known_waiting}
use Rattle.sdd_domain_steps.proofs.SameHome.{on_table, from_table}
use Rattle.sdd_domain_core.proofs.JobTables.{next_goes, still_jobs}
use Rattle.sdd_domain_steps.proofs.LocalLooks.{with_view}
use Rattle.sdd_domain_steps.proofs.BetweenCalls.{between_calls_reclaims}
use Rattle.sdd_domain_steps.proofs.InBags.{first_plain, first_plain_out, first_slot, known_once}
use Rattle.sdd_domain_core.proofs.Tallies.{tallied_reclaimed}
use Rattle.sdd_domain_core.proofs.local_core.LocalCore.reclaim.Goals as goal

pub take_value-value-requires-clause-inside : goal.take_value-value-requires-clause-inside
take_value-value-requires-clause-inside g c = let l = c.self.inside in let r = c.self.invariant.4 in
    subst (λ (k : ℕ). c.args.slot < k) (sym (ap (λ (z : Sizes). z.slots) c.self.invariant.0.knows.0))
    (first_slot (slots_of (facts_of l.domain.now.table)) (known_waiting l.seat.me.0.slots) l.own.bags.waiting l.due.items r.bags c.args.slot c.requires.first.0
    (ap (λ (m : LocalState _). m.due) c.self.view_is
    ∙ (ap (λ (m : LocalState _). m.due) c.if-not-claim_first.ensures.member ∙ c.requires.first.1)))

pub take_value-value-requires-clause-due : goal.take_value-value-requires-clause-due
take_value-value-requires-clause-due g c = let l = c.self.inside in let r = c.self.invariant.4 in let n : ℕ = slots_of (facts_of l.domain.now.table) in
    let known = known_waiting l.seat.me.0.slots in let both = known_once n known l.own.bags.waiting l.due.items r.bags c.args.slot in
    let once = ap (λ (m : LocalState _). total (waits_in c.args.slot) m.slots.waits) c.self.view_is ∙ c.if-not-claim_first.ensures.once in
    first_plain n known l.own.bags.waiting l.due.items r.bags (Item c.args.slot) c.requires.first.0
    (ap (λ (m : LocalState _). m.due) c.self.view_is
    ∙ (ap (λ (m : LocalState _). m.due) c.if-not-claim_first.ensures.member ∙ c.requires.first.1)) (omega arith)

pub remember-requires : goal.remember-requires
remember-requires g c = let l = c.self.inside in let r = c.self.invariant.4 in
    let low = first_slot (slots_of (facts_of l.domain.now.table)) (known_waiting l.seat.me.0.slots) l.own.bags.waiting l.due.items r.bags c.args.slot
    c.requires.first.0
    (ap (λ (m : LocalState _). m.due) c.self.view_is
    ∙ (ap (λ (m : LocalState _). m.due) c.if-not-claim_first.ensures.member ∙ c.requires.first.1)) in subst (λ (n : ℕ). c.args.slot < n) (sym r.slots) low

pub invariant_of-self : goal.invariant_of-self
invariant_of-self g c = let l = c.self.inside in let b = (facts_of l.domain.now.table) in let i = c.self.invariant in let r = i.4 in let n : ℕ = slots_of b in
    let slot : ℕ = c.args.slot in let seat = c.take_value-value.new.seat in
    let due = ap (λ (m : LocalState _). m.due) c.self.view_is
    ∙ (ap (λ (m : LocalState _). m.due) c.if-not-claim_first.ensures.member ∙ c.requires.first.1) in
    let next = next_goes l.due c.next.new.self c.next.result (Item slot) c.requires.first.0 c.next.ensures.next due in
    let low = first_slot n (known_waiting l.seat.me.0.slots) l.own.bags.waiting l.due.items r.bags slot c.next.new.self.items next in
    let gives = c.take_value-value.ensures.given_back in (
      between_calls_reclaims b l.place l.own slot l.seat seat i.0 gives,
      i.1,
      i.2,
      subst (AreLentTo l.section.lifetime) (sym gives.2) i.3,
      record {
        bags = subst (λ (k : KnownWaiting). AreInBags n k l.own.bags.waiting c.next.new.self.items) (sym (ap (λ (v : View). known_waiting v.slots) gives.3.0))
            (first_plain_out n (known_waiting l.seat.me.0.slots) l.own.bags.waiting l.due.items r.bags (Item slot) c.next.new.self.items next gives.3.1);
        told = subst (TellsCollectors n l.privates.entries) (sym (ap (λ (v : View). v.slots.privates) gives.3.0)) r.told;
        large = subst (λ (n : ℕ). l.own.bags.room ≤ n) (sym c.next.ensures.room) r.large;
        slots = c.remember.ensures.slots ∙ r.slots;
        places = r.places;
        jobs = still_jobs n (sizes_of b).jobs l.jobs l.seat.me.0.slots.waits r.jobs seat.me.0.slots.waits
            (λ j _. ap (λ (v : View). total (waits_in (n + j)) v.slots.waits) gives.3.0
            ∙ item_kept slot (n + j) (λ e. omega arith) l.seat.me.0.slots.waits);
      },
      subst (λ (t : Tally). IsTallied 0 t seat.me.0.fractions.counts) (sym c.count_reclaimed.ensures)
          (subst (IsTallied 0 (one_reclaimed l.tally)) (sym (ap (λ (v : View). v.fractions.counts) gives.3.0))
          (tallied_reclaimed l.tally l.seat.me.0.fractions.counts i.5)),
    )

pub returns-clause-home : goal.returns-clause-home
returns-clause-home g c = let l = c.self.inside in let b = (facts_of l.domain.now.table) in let inv = c.self.invariant in
    let value = c.take_value-value.result in
    subst (λ (m : LocalState _). AreOf (home_in m) (g.T.Item.holds value)) (c.self.view_is ∙ c.if-not-claim_first.ensures.member)
    (from_table b (c.self.view_is 0) (on_table l.domain.now.limits b l.seat.table_id inv.0.home l.domain.now.limited.1 (c.self.view_is 0) refl refl refl)
    (g.T.Item.holds value) (fits_from inv.0 (g.T.Item.holds value) c.take_value-value.ensures.fits))

-- what it makes of a participant whose item waits for no collector
abbrev goes : {J : Type 0} → ℕ → List LimboEntry → LocalState J → LocalState J
goes slot rest m = record m {
  tally = one_reclaimed m.tally;
  slots = record m.slots { waits = without_item slot m.slots.waits };
  words = slice_set m.words (behind m.sizes slot) (free_word 0);
  due = rest;
}

pub returns-clause-gone : goal.returns-clause-gone
returns-clause-gone g c = let l = c.self.inside in let b = (facts_of l.domain.now.table) in let inv = c.self.invariant in let r = inv.4 in
    let slot : ℕ = c.args.slot in let rest = c.next.new.self.items in let seat = c.take_value-value.new.seat in let claims = c.if-not-claim_first.ensures in
    let due = ap (λ (m : LocalState _). m.due) c.self.view_is
    ∙ (ap (λ (m : LocalState _). m.due) c.if-not-claim_first.ensures.member ∙ c.requires.first.1) in
    let next = next_goes l.due c.next.new.self c.next.result (Item slot) c.requires.first.0 c.next.ensures.next due in
    let gives = c.take_value-value.ensures.given_back in let mid : LocalState _ = c.self.view_is 0 in let old : LocalState _ = c.args.self.now in
    let all : l.seat.me.0.epoch.all ≡ l.domain.now.limits.participants = inv.0.all ∙ ap (λ (z : Sizes). z.participants) l.domain.now.limited.1 in
    let on = on_table l.domain.now.limits b l.seat.table_id inv.0.home l.domain.now.limited.1 mid refl refl refl in
    let low = first_slot (slots_of b) (known_waiting l.seat.me.0.slots) l.own.bags.waiting l.due.items r.bags slot rest next in
    let now : LocalState _ = record (with_view mid seat.table_id seat.me.0) { tally = c.count_reclaimed.new.self; due = rest } in
    let went : now ≡ goes slot rest mid = (λ d. record (with_view mid (gives.0 d) (gives.3.0 d)) { tally = c.count_reclaimed.ensures d; due = rest }) in
    let from : mid ≡ record old {
      slots = record old.slots { waits = c.claim_first.new.self.slots.waits; privates = without_private slot old.slots.privates };
      words = c.claim_first.new.self.words;
      collectors = without_entry old.collectors slot;
    } = c.self.view_is ∙ claims.member in record {
      inside = subst (λ (n : ℕ). slot < n) (sym on.slots ∙ ap (λ (m : LocalState _). m.limits.slots) from) low;
      first = ap (λ (m : LocalState _). m.due) (sym from) ∙ next;
      member = went ∙ (ap (goes slot rest) from ∙ (λ d. record old {
        tally = one_reclaimed old.tally;
        slots = record old.slots { waits = claims.others d; privates = without_private slot old.slots.privates };
        words = claims.words d;
        due = rest;
        collectors = without_entry old.collectors slot;
      }));
      once = claims.was;
      lone = λ one. subst (λ (m : LocalState _). (shared : Bool) × (newest slot m.filled
          ≡ Some (record { slot = slot; shared = shared; value = showing g.row.T c.take_value-value.result }))) from
          (c.take_value-value.ensures.lone (all ∙ (ap (λ (m : LocalState _). m.limits.participants) from ∙ one)));
    }

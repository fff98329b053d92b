use Rattle.std.proofs.Common.{ℕ, ◌+◌, ◌<◌, List, [], ◌∷◌, ◌++◌, Option, rules, sym, ap, ◌∙◌, subst, arith}
use Rattle.std.specs.Prelude.{Bool}
use Rattle.sdd_rights.specs.Right.{kind_of, number_of}
use Rattle.sdd_rights.specs.StandingKind.{is_shared}
use Rattle.sdd_rights.specs.declared.views.View.{View}
use Rattle.sdd_rights.specs.declared.views.WaitingItem.{WaitingItem}
use Rattle.sdd_domain_invariant.specs.Collectors.CollectorWordSteps.{HasWaiting}
use Rattle.sdd_domain_invariant.specs.Slots.SlotSteps.{retired_now}
use Rattle.sdd_atomics.specs.TableFacts.{facts_of, sizes_of, slots_of}
use Rattle.sdd_domain_steps.specs.BetweenCalls.{AreLentTo}
use Rattle.sdd_domain_core.specs.Collectors.{CollectsAt}
use Rattle.sdd_domain_steps.specs.InBags.{TellsCollectors}
use Rattle.sdd_domain_steps.specs.LocalState.{LocalState, RetiresAt}
use Rattle.sdd_domain_steps.specs.Receipt.{IsTallied}
use Rattle.sdd_domain_core.proofs.ItemCollected.{collected_bags, collected_others, collected_between_calls, collected_told, collects_to, newest_collected, newest_waits, others_collected, view_collected}
use Rattle.sdd_domain_core.proofs.JobTables.{still_jobs}
use Rattle.sdd_domain_steps.proofs.LocalLooks.{with_view}
use Rattle.sdd_domain_core.proofs.local_core.LocalCore.collect.Goals as goal

pub collect-requires-clause-waits : goal.collect-requires-clause-waits
collect-requires-clause-waits g c = let l = c.self.inside in let went = c.if-not-release.ensures.went in let slot : ℕ = number_of c.args.right in
    subst (λ (k : ℕ). (x : WaitingItem) × HasWaiting l.seat.me.0 k x) (sym c.number-slot.ensures) (
      retired_now slot went.0,
      newest_waits slot went.0 l.seat.me.0 c.args.self.now.slots.waits (ap (λ (m : LocalState _). m.slots.waits) (c.self.view_is ∙ went.1.member)),
    )

-- its item waits for the collector from now on
pub invariant_of-self : goal.invariant_of-self
invariant_of-self g c = let l = c.self.inside in let b = (facts_of l.domain.now.table) in let i = c.self.invariant in let r = i.4 in let n : ℕ = slots_of b in
    let slot : ℕ = c.number-slot.result in let s = l.seat in let u = c.collect.new.seat in let cell : ℕ = c.number-number.result in
    let moved = c.collect.ensures in let went = c.if-not-release.ensures.went in let low : slot < n = search rules in
    let is = c.self.view_is ∙ went.1.member in let none = ap (λ (m : LocalState _). m.slots.closes) is ∙ c.requires.closes in
    let newest = ap (λ (m : LocalState _). m.slots.waits) is
    ∙ (λ d. c.args.self.now.slots.waits ++ retired_now (sym c.number-slot.ensures d) went.0 ∷ []) in
    let view = view_collected b l.place l.own cell slot s u moved in let others = others_collected b l.place l.own cell slot s u moved in (
      collected_between_calls b l.place l.own cell slot s u moved i.0,
      i.1,
      i.2,
      subst (AreLentTo l.section.lifetime) (sym others) i.3,
      record {
        bags = collected_bags b l.place l.own cell slot s u moved l.own.bags.waiting l.due.items r.bags low none;
        large = r.large;
        slots = r.slots;
        told = subst (λ (t : List (Option ℕ)). TellsCollectors n t u.me.0.slots.privates) (sym c.put.ensures.entry)
            (collected_told b l.place l.own cell slot s u moved l.own.bags.waiting l.due.items r.bags l.privates.entries low r.told);
        places = r.places;
        jobs = still_jobs n (sizes_of b).jobs l.jobs s.me.0.slots.waits r.jobs u.me.0.slots.waits
            (λ j _. collected_others b l.place l.own cell slot s u moved l.own.bags.waiting l.due.items r.bags c.args.self.now.slots.waits went.0 newest (n + j)
            (λ e. omega arith));
      },
      subst (IsTallied 0 l.tally) (sym (ap (λ (v : View). v.fractions.counts) view)) i.5,
    )

pub returns-clause-went : goal.returns-clause-went
returns-clause-went g c = let l = c.self.inside in let b = (facts_of l.domain.now.table) in let r = c.self.invariant.4 in
    let slot : ℕ = c.number-slot.result in let s = l.seat in let u = c.collect.new.seat in let cell : ℕ = c.number-number.result in
    let moved = c.collect.ensures in let went = c.if-not-release.ensures.went in let old : LocalState _ = c.args.self.now in
    let mid : LocalState _ = c.self.view_is 0 in let shared : Bool = is_shared (kind_of c.args.right) in
    let retires = subst (λ (z : ℕ × LocalState _). RetiresAt z.0 shared went.0 old z.1) (λ d. (sym c.number-slot.ensures d, sym c.self.view_is d)) went.1 in
    let newest = ap (λ (m : LocalState _). m.slots.waits) retires.member in
    let view = newest_collected b l.place l.own cell slot s u moved l.own.bags.waiting l.due.items r.bags old.slots.waits went.0 newest in
    let now : LocalState _ = record (with_view mid u.table_id u.me.0) { collectors = c.put.new.self.entries } in (
      went.0,
      subst (λ (z : ℕ × ℕ). CollectsAt z.0 z.1 shared went.0 old now) (λ d. (c.number-number.ensures d, c.number-slot.ensures d))
          (collects_to old mid now cell slot went.0 shared retires
          (λ d. record (with_view mid (moved.0 d) (view d)) { collectors = c.put.ensures.entry d }) (omega arith)),
    )

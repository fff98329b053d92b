use Rattle.std.proofs.Common.{◌≡◌, ℕ, ◌+◌, ◌≤◌, List, Option, refl, sym, ap, ◌∙◌, subst, arith}
use Rattle.sdd_participants.specs.declared.waiting.LimboEntry.TheVariants.{Item}
use Rattle.sdd_rights.specs.declared.views.PrivateItem.{PrivateItem}
use Rattle.sdd_rights.specs.declared.views.View.{View}
use Rattle.sdd_rights.specs.declared.views.Sizes.{Sizes}
use Rattle.sdd_domain_invariant.specs.Collectors.{private_in}
use Rattle.sdd_domain_invariant.specs.Sums.{total}
use Rattle.sdd_domain_invariant.specs.Slots.{waits_in}
use Rattle.sdd_atomics.specs.TableFacts.{facts_of, sizes_of, slots_of}
use Rattle.sdd_domain_steps.specs.LocalState.{LocalState}
use Rattle.sdd_domain_steps.specs.BetweenCalls.{AreLentTo}
use Rattle.sdd_domain_core.specs.Collectors.{ClaimsFirst, LosesItem}
use Rattle.sdd_domain_steps.specs.InBags.{TellsCollectors, known_waiting}
use Rattle.sdd_domain_steps.specs.Receipt.{IsTallied}
use Rattle.sdd_domain_core.proofs.FirstClaims.{claimed_bags, claimed_goes, claimed_once, claimed_others, claimed_between_calls, claimed_privates, claimed_there, claimed_words, lost_bags, lost_between_calls}
use Rattle.sdd_domain_steps.proofs.InBags.{first_once, first_slot, known_in, none_private}
use Rattle.sdd_domain_core.proofs.JobTables.{next_goes, still_jobs}
use Rattle.sdd_domain_steps.proofs.LocalLooks.{with_view}
use Rattle.sdd_domain_steps.proofs.PrivateTables.{told_in, told_none, told_out, told_some}
use Rattle.sdd_domain_core.proofs.local_core.LocalCore.claim_first.Goals as goal

pub take-requires : goal.take-requires
take-requires g c = let l = c.self.inside in let r = c.self.invariant.4 in
    let low = first_slot (slots_of (facts_of l.domain.now.table)) (known_waiting l.seat.me.0.slots) l.own.bags.waiting l.due.items r.bags c.args.slot
    c.requires.first.0
    (ap (λ (m : LocalState _). m.due) c.self.view_is ∙ c.requires.first.1) in let long = r.told.long in omega arith

-- the item waits for no collector
pub returns-in_default : goal.returns-in_default
returns-in_default g c = let l = c.self.inside in let r = c.self.invariant.4 in let n : ℕ = slots_of (facts_of l.domain.now.table) in
    let slot : ℕ = c.args.slot in
    let ps : List PrivateItem = l.seat.me.0.slots.privates in let known = known_waiting l.seat.me.0.slots in
    let due = ap (λ (m : LocalState _). m.due) c.self.view_is ∙ c.requires.first.1 in
    let none : total (private_in slot) ps ≡ 0 = told_none n l.privates.entries ps r.told slot (sym c.take.ensures.collector ∙ c.in_default.is) in
    let once = first_once n known l.own.bags.waiting l.due.items r.bags (Item slot) c.requires.first.0 due in
    let both = known_in n known l.own.bags.waiting l.due.items r.bags slot in let old : LocalState _ = c.self.view_is 0 in
    let now : LocalState _ = record old { collectors = c.take.new.self.entries } in
    subst (λ (m : LocalState _). ClaimsFirst slot m now) c.self.view_is record {
      member = λ d. record old { slots = record old.slots { privates = sym (none_private slot ps none) d }; collectors = c.take.ensures.taken d };
      others = refl;
      words = refl;
      once = omega arith;
      was = omega arith;
    }

pub claim_back-requires-clause-waits : goal.claim_back-requires-clause-waits
claim_back-requires-clause-waits g c = let l = c.self.inside in let r = c.self.invariant.4 in
    let one = told_some (slots_of (facts_of l.domain.now.table)) l.privates.entries l.seat.me.0.slots.privates r.told c.args.slot c.in-Some.collector
    (sym c.take.ensures.collector ∙ c.in-Some.is) in (one.1, (one.0, one.2), one.3, one.4)

-- it waits as any other from now on
pub invariant_of-self-then-claim_back : goal.invariant_of-self-then-claim_back
invariant_of-self-then-claim_back g c = let l = c.self.inside in let b = (facts_of l.domain.now.table) in let i = c.self.invariant in let r = i.4 in
    let n : ℕ = slots_of b in let slot : ℕ = c.args.slot in let s = l.seat in let u = c.claim_back.new.seat in let claims = c.if-claim_back.ensures.claimed in
    let due = ap (λ (m : LocalState _). m.due) c.self.view_is ∙ c.requires.first.1 in
    let low = first_slot n (known_waiting s.me.0.slots) l.own.bags.waiting l.due.items r.bags slot c.requires.first.0 due in (
      claimed_between_calls b l.place l.own slot s u claims i.0 low,
      i.1,
      i.2,
      subst (AreLentTo l.section.lifetime) (sym claims.seat.others) i.3,
      record {
        bags = claimed_bags b l.place l.own slot s u claims l.own.bags.waiting l.due.items r.bags
            (ap (λ (m : LocalState _). m.slots.closes) c.self.view_is ∙ c.requires.closes);
        large = r.large;
        slots = c.if-claim_back.ensures.known ∙ r.slots;
        told = subst (λ (z : List (Option ℕ) × List PrivateItem). TellsCollectors n z.0 z.1)
            (λ d. (sym c.take.ensures.taken d, sym (claimed_privates b l.place l.own slot s u claims) d))
            (told_out n l.privates.entries s.me.0.slots.privates r.told slot low);
        places = r.places;
        jobs = still_jobs n (sizes_of b).jobs l.jobs s.me.0.slots.waits r.jobs u.me.0.slots.waits
            (λ j _. claimed_others b l.place l.own slot s u claims (n + j) (λ e. omega arith));
      },
      subst (IsTallied 0 l.tally) (sym (ap (λ (v : View). v.fractions.counts) claims.seat.view)) i.5,
    )

pub returns-then-claim_back : goal.returns-then-claim_back
returns-then-claim_back g c = let l = c.self.inside in let b = (facts_of l.domain.now.table) in let i = c.self.invariant in let r = i.4 in
    let n : ℕ = slots_of b in let slot : ℕ = c.args.slot in let s = l.seat in let u = c.claim_back.new.seat in let claims = c.if-claim_back.ensures.claimed in
    let known = known_waiting s.me.0.slots in let due = ap (λ (m : LocalState _). m.due) c.self.view_is ∙ c.requires.first.1 in
    let once = first_once n known l.own.bags.waiting l.due.items r.bags (Item slot) c.requires.first.0 due in
    let both = known_in n known l.own.bags.waiting l.due.items r.bags slot in let there = claimed_there b l.place l.own slot s u claims in
    let old : LocalState _ = c.self.view_is 0 in
    let now : LocalState _ = record (with_view old u.table_id u.me.0) { collectors = c.take.new.self.entries } in
    subst (λ (m : LocalState _). ClaimsFirst slot m now) c.self.view_is record {
      member = λ d. record (with_view old (claims.seat.table d) (record (claims.seat.view d) {
        slots = record (claims.seat.view d).slots { waits = u.me.0.slots.waits };
        words = u.me.0.words;
      })) { collectors = c.take.ensures.taken d };
      others = claimed_goes b l.place l.own slot s u claims;
      words = claimed_words b l.place l.own slot s u claims;
      once = claimed_once b l.place l.own slot s u claims (omega arith);
      was = omega arith;
    }

-- a close came first
pub invariant_of-self-2 : goal.invariant_of-self-2
invariant_of-self-2 g c = let l = c.self.inside in let b = (facts_of l.domain.now.table) in let i = c.self.invariant in let r = i.4 in
    let n : ℕ = slots_of b in let slot : ℕ = c.args.slot in let s = l.seat in let u = c.claim_back.new.seat in let lets = c.if-claim_back.ensures.claimed in
    let due = ap (λ (m : LocalState _). m.due) c.self.view_is ∙ c.requires.first.1 in
    let next = next_goes l.due c.next.new.self c.next.result (Item slot) c.requires.first.0 c.next.ensures.next due in
    let low = first_slot n (known_waiting s.me.0.slots) l.own.bags.waiting l.due.items r.bags slot c.requires.first.0 due in
    let there = told_in n l.privates.entries s.me.0.slots.privates r.told slot c.in-Some.collector (sym c.take.ensures.collector ∙ c.in-Some.is) in (
      lost_between_calls b l.place l.own c.in-Some.collector slot s u lets i.0,
      i.1,
      i.2,
      subst (AreLentTo l.section.lifetime) (sym lets.seat.others) i.3,
      record {
        bags = lost_bags b l.place l.own c.in-Some.collector slot s u lets l.own.bags.waiting l.due.items c.next.new.self.items r.bags next there;
        large = subst (λ (k : ℕ). l.own.bags.room ≤ k) (sym c.next.ensures.room) r.large;
        slots = c.if-claim_back.ensures.known ∙ r.slots;
        told = subst (λ (z : List (Option ℕ) × List PrivateItem). TellsCollectors n z.0 z.1)
            (λ d. (sym c.take.ensures.taken d, sym (ap (λ (v : View). v.slots.privates) lets.seat.view) d))
            (told_out n l.privates.entries s.me.0.slots.privates r.told slot low);
        places = r.places;
        jobs = still_jobs n (sizes_of b).jobs l.jobs s.me.0.slots.waits r.jobs u.me.0.slots.waits
            (λ j _. ap (λ (v : View). total (waits_in (n + j)) v.slots.waits) lets.seat.view);
      },
      subst (IsTallied 0 l.tally) (sym (ap (λ (v : View). v.fractions.counts) lets.seat.view)) i.5,
    )

pub returns : goal.returns
returns g c = let l = c.self.inside in let b = (facts_of l.domain.now.table) in let i = c.self.invariant in let r = i.4 in
    let slot : ℕ = c.args.slot in let u = c.claim_back.new.seat in let lets = c.if-claim_back.ensures.claimed in
    let due = ap (λ (m : LocalState _). m.due) c.self.view_is ∙ c.requires.first.1 in
    let next = next_goes l.due c.next.new.self c.next.result (Item slot) c.requires.first.0 c.next.ensures.next due in
    let old : LocalState _ = c.self.view_is 0 in
    let all : l.seat.me.0.epoch.all ≡ l.domain.now.limits.participants = i.0.all ∙ ap (λ (z : Sizes). z.participants) l.domain.now.limited.1 in
    let now : LocalState _ = record (with_view old u.table_id u.me.0) { due = c.next.new.self.items; collectors = c.take.new.self.entries } in
    subst (λ (m : LocalState _). LosesItem slot m now) c.self.view_is record {
      first = next;
      member = λ d. record (with_view old (lets.seat.table d) (record (lets.seat.view d) { words = u.me.0.words })) {
        due = c.next.new.self.items;
        collectors = c.take.ensures.taken d;
      };
      collector = c.in-Some.collector;
      kept = sym c.take.ensures.collector ∙ c.in-Some.is;
      claimed = λ lone same. lets.claimed (lets.knew (all ∙ lone) ∙ same);
    }

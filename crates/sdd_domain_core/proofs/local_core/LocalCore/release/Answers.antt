use lib.ListN.{get_elem?}
use mathlib.Core.Option.{some}
use Rattle.std.proofs.Common.{List, [], ◌∷◌, ◌≡◌, ℕ, ◌+◌, ◌<◌, rules, refl, sym, ap, ◌∙◌, subst, arith}
use Rattle.sdd_domain_invariant.specs.Collectors.{privates_at}
use Rattle.sdd_domain_invariant.specs.Sums.{total}
use Rattle.sdd_domain_invariant.specs.Slots.{items_at, waits_in}
use Rattle.sdd_domain_invariant.specs.Slots.SlotSteps.{Knew, retired_now}
use Rattle.sdd_domain_invariant.proofs.Sums.{is_other, total_snoc}
use Rattle.sdd_domain_core.proofs.JobTables.{still_jobs}
use Rattle.sdd_rights.specs.Owner.{witness_of_owner}
use Rattle.sdd_atomics.specs.TableFacts.{facts_of, id_of, most_waiting_of, sizes_of, slots_of}
use Rattle.sdd_rights.specs.Units.{GhostName}
use Rattle.sdd_participants.specs.declared.waiting.LimboEntry.TheVariants.{Item}
use Rattle.sdd_participants.specs.declared.participant.Participant.{Participant}
use Rattle.sdd_participants.specs.Bags.{Bags}
use Rattle.sdd_participants.specs.EpochState.{awaiting, with_garbage}
use Rattle.sdd_domain_steps.specs.BetweenCalls.{IsBetweenCalls, AreLentTo, IsSectionOf, AgreesWithView}
use Rattle.sdd_domain_steps.specs.InBags.{AreInBags, KnownWaiting, TellsCollectors, known_waiting}
use Rattle.sdd_domain_steps.proofs.InBags.{one_more, room_left}
use Rattle.sdd_domain_steps.proofs.Reclaims.{what_item}
use Rattle.sdd_domain_steps.specs.Receipt.{IsTallied}
use Rattle.sdd_rights.specs.declared.views.View.{View}
use Rattle.atomic_table.specs.declared.shared.Seat.{Seat}
use Rattle.sdd_rights.specs.declared.views.Sizes.{Sizes}
use Rattle.sdd_rights.specs.Views.{owner_of}
use Rattle.sdd_shared_values.specs.declared.value_fraction.ValueFraction.{ValueFraction}
use Rattle.sdd_domain_invariant.specs.Fractions.FractionSteps.{regained}
use Rattle.sdd_rights.specs.StandingKind.{is_shared}
use Rattle.sdd_rights.specs.Right.{number_of, kind_of}
use Rattle.sdd_domain_invariant.specs.Codes.{claimed_word, retired_word}
use Rattle.sdd_atomics.specs.DomainSeat.{Taught, Moved, MovedAlone}
use Rattle.sdd_domain_steps.specs.Values.{LetsWait, LeavesOthers, LetsOneGo}
use Rattle.std.specs.Prelude.{Bool, true}
use base.Stored.{Gv}
use Rattle.sdd_domain_steps.specs.LocalState.{LocalState, IsLone, KnowsOwner, RetiresAt, LeavesAt}
use Rattle.sdd_domain_steps.proofs.LocalLooks.{with_view, recalls_to, has_tables}
use Rattle.sdd_domain_steps.proofs.BetweenCalls.{has_place, between_calls_retires, retires_to, between_calls_leaves, leaves_to, same_recalled}
use Rattle.sdd_domain_core.proofs.local_core.LocalCore.release.Given.{Over}
use Rattle.sdd_domain_core.specs.Noted.{HasNoted}
use Rattle.sdd_domain_core.proofs.local_core.LocalCore.release.Goals.{After-take_in}
use Rattle.sdd_domain_core.proofs.local_core.LocalCore.release.Goals as goal

-- the owner was recalled, which changed nothing, and taken in
taken : (g : Over) (c : After-take_in g) → Taught (λ v _ w. w ≡ regained v (owner_of (number_of c.args.right) (is_shared (kind_of c.args.right))
    c.into_owner-owner.result.1.shown)) c.self.inside.seat 0 c.take_in.new.seat
taken g c =
    let l = c.self.inside in let slot : ℕ = number_of c.args.right in let shared : Bool = is_shared (kind_of c.args.right) in
    let by = c.into_owner-owner.ensures.owner (has_tables c.args.self.now c.args.right c.requires.home) in let shown : Gv = c.into_owner-owner.result.1.shown in
    let same = same_recalled (facts_of l.domain.now.table) l.place slot shared shown l.seat c.recall.new.seat (c.recall.ensures slot shared shown by.owner) in
    subst (λ (x : Seat ValueFraction View). Taught (λ v _ w. w ≡ regained v (owner_of slot shared shown)) x 0 c.take_in.new.seat) same
    (c.take_in.ensures slot shared shown by.owner)

-- what a lone participant knows then
told : (g : Over) (c : After-take_in g) → IsLone c.args.self.now
    → (value : Gv) × KnowsOwner c.args.self.now (number_of c.args.right) (is_shared (kind_of c.args.right)) value
told g c =
    let l = c.self.inside in let slot : ℕ = number_of c.args.right in let shared : Bool = is_shared (kind_of c.args.right) in
    let by = c.into_owner-owner.ensures.owner (has_tables c.args.self.now c.args.right c.requires.home) in let shown : Gv = c.into_owner-owner.result.1.shown in
    subst (λ (m : LocalState _). IsLone m → (value : Gv) × KnowsOwner m slot shared value) c.self.view_is (λ lone. (
      shown,
      recalls_to (c.self.view_is 0) slot shared shown l.seat c.recall.new.seat (c.recall.ensures slot shared shown by.owner)
          (c.self.invariant.0.all ∙ ap (λ (z : Sizes). z.participants) l.domain.now.limited.1) lone,
    ))

-- it was the last
pub invariant_of-self-2 : goal.invariant_of-self-2
invariant_of-self-2 g c =
    let q = c.self.invariant.0 in let l = c.self.inside in let slot : ℕ = number_of c.args.right in let shared : Bool = is_shared (kind_of c.args.right) in
    let shown : Gv = c.into_owner-owner.result.1.shown in let took = taken g (goal.at.invariant_of-self-2 g c).After-take_in in
    let kind : c.is_one_of_several-shared.result ≡ shared = c.is_one_of_several-shared.ensures ∙ ap is_shared (sym c.requires.kind) in
    let went = subst (λ (z : ℕ × Bool). MovedAlone (LetsOneGo z.0 z.1 true) c.take_in.new.seat c.let_one_go.new.seat)
    (λ d. (c.number-slot.ensures d, kind d)) c.if-not-let_one_go.ensures.went in
    let y : ℕ = retired_word shared in let waits : Moved (LetsWait slot) c.take_in.new.seat y c.let_one_go.new.seat = (went.0, went.1, went.2.0) in
    let retired = retires_to (facts_of l.domain.now.table) l.place l.own y slot shared shown l.seat c.take_in.new.seat c.let_one_go.new.seat q took waits in
    let own_is : c.set_has_garbage.new.self ≡ awaiting (Item slot) l.own
    = c.set_has_garbage.ensures ∙ (ap (λ (bags : Bags). with_garbage (record l.own { bags = bags })) c.push.ensures ∙ ap (λ (k : ℕ). awaiting
    (Item k) l.own) (c.of.ensures ∙ c.number-slot.ensures)) in
    let table = (facts_of l.domain.now.table) in let i = c.self.invariant in let inside : slot < slots_of table = search rules in
    subst (λ (o : Participant). IsBetweenCalls table l.place o c.let_one_go.new.seat
    × HasNoted table l.domain.now.limits l.place l.nesting l.state × IsSectionOf o l.section × AreLentTo l.section.lifetime c.let_one_go.new.seat.me.1
    × AgreesWithView table o l.due l.known.slots l.jobs l.privates.entries (known_waiting c.let_one_go.new.seat.me.0.slots)
    × IsTallied 0 l.tally c.let_one_go.new.seat.me.0.fractions.counts)
    (sym own_is) (
      between_calls_retires table l.place l.own y slot shared shown l.seat c.take_in.new.seat c.let_one_go.new.seat i.0 inside took waits,
      i.1,
      record { units = i.2.units; kind = i.2.kind },
      subst (AreLentTo l.section.lifetime) (sym (waits.2.3 ∙ took.2)) i.3,
      record {
        bags = subst (λ (k : KnownWaiting). AreInBags (slots_of table) k (awaiting (Item slot) l.own).bags.waiting l.due.items)
            (sym (ap (λ (v : View). known_waiting v.slots) retired.1))
            (one_more (slots_of table) (known_waiting l.seat.me.0.slots) l.own.bags.waiting l.due.items i.4.bags (retired_now slot retired.0) (Item slot) refl
            (what_item (slots_of table) (retired_now slot retired.0) inside) retired.5 retired.6);
        told = subst (TellsCollectors (slots_of table) l.privates.entries) (sym (ap (λ (v : View). v.slots.privates) retired.1)) i.4.told;
        large = i.4.large;
        slots = i.4.slots;
        places = i.4.places;
        jobs = still_jobs (slots_of table) (sizes_of table).jobs l.jobs l.seat.me.0.slots.waits i.4.jobs c.let_one_go.new.seat.me.0.slots.waits
            (λ j low. ap (λ (v : View). total (waits_in (slots_of table + j)) v.slots.waits) retired.1
            ∙ (let t = total_snoc (waits_in (slots_of table + j)) l.seat.me.0.slots.waits (retired_now slot retired.0) in
            let o = is_other (slots_of table + j) slot (λ e. let l = inside in omega arith) in omega arith));
      },
      subst (IsTallied 0 l.tally) (sym (ap (λ (v : View). v.fractions.counts) retired.1)) i.5,
    )

-- others stay
pub invariant_of-self : goal.invariant_of-self
invariant_of-self g c =
    let q = c.self.invariant.0 in let l = c.self.inside in let slot : ℕ = number_of c.args.right in let shared : Bool = is_shared (kind_of c.args.right) in
    let shown : Gv = c.into_owner-owner.result.1.shown in let took = taken g (goal.at.invariant_of-self g c).After-take_in in
    let went = subst (λ (k : ℕ). MovedAlone (LeavesOthers k) c.take_in.new.seat c.let_one_go.new.seat) c.number-slot.ensures
    c.if-not-let_one_go.ensures.went in
    let left = leaves_to (facts_of l.domain.now.table) l.place l.own slot shared shown l.seat c.take_in.new.seat c.let_one_go.new.seat q took went in
    let table = (facts_of l.domain.now.table) in let i = c.self.invariant in (
      between_calls_leaves table l.place l.own slot shared shown l.seat c.take_in.new.seat c.let_one_go.new.seat i.0 took went,
      i.1,
      i.2,
      subst (AreLentTo l.section.lifetime) (sym left.1) i.3,
      subst (AgreesWithView table l.own l.due l.known.slots l.jobs l.privates.entries) (sym (ap (λ (v : View). known_waiting v.slots) left.0)) i.4,
      subst (IsTallied 0 l.tally) (sym (ap (λ (v : View). v.fractions.counts) left.0)) i.5,
    )

pub returns-clause-recalled : goal.returns-clause-recalled
returns-clause-recalled g c = told g (goal.at.returns-clause-recalled g c).After-take_in

pub returns-then-not-let_one_go-clause-recalled : goal.returns-then-not-let_one_go-clause-recalled
returns-then-not-let_one_go-clause-recalled g c = told g (goal.at.returns-then-not-let_one_go-clause-recalled g c).After-take_in

pub let_one_go-requires : goal.let_one_go-requires
let_one_go-requires g c =
    let q = c.self.invariant.0 in let l = c.self.inside in let slot : ℕ = number_of c.args.right in let shared : Bool = is_shared (kind_of c.args.right) in
    let shown : Gv = c.into_owner-owner.result.1.shown in let took = taken g (goal.at.let_one_go-requires g c).After-take_in in
    let kind : c.is_one_of_several-shared.result ≡ shared = c.is_one_of_several-shared.ensures ∙ ap is_shared (sym c.requires.kind) in record {
      ready = record {
        place = subst (λ (k : ℕ). 0 < k) (sym (ap (λ (v : View). v.epoch.state) took.3)) (has_place (facts_of l.domain.now.table) l.place l.own l.seat q);
        rests = ap (λ (v : View). v.fractions.moves) took.3 ∙ q.rests;
      };
      inside = search rules;
      own =
          let none = ap (λ (v : View). v.slots.holds) took.3 ∙ q.quiet.holds in (
            ap (λ (v : View). v.slots.owns) took.3 ∙ (ap (λ (is : List ℕ). slot ∷ is) q.quiet.owns ∙ ap (λ (k : ℕ). k ∷ []) (sym c.number-slot.ensures)),
            (λ held. cc),
            ap (λ (v : View). v.slots.drawn) took.3 ∙ (ap (λ (is : List ℕ). slot ∷ is) q.quiet.drawn ∙ ap (λ (k : ℕ). k ∷ []) (sym c.number-slot.ensures)),
          );
      told = (
        shown,
        (
          0,
          ap (λ (v : View). get_elem? v.fractions.owns 0) took.3
              ∙ (λ d. some (record { slot = sym c.number-slot.ensures d; shared = sym kind d; value = shown })),
        ),
      );
      unit = search rules;
      shows = (
        0,
        record { slot = c.number-slot.result; shared = c.is_one_of_several-shared.result; value = shown },
        ap (λ (v : View). get_elem? v.fractions.owns 0) took.3
            ∙ (λ d. some (record { slot = sym c.number-slot.ensures d; shared = sym kind d; value = shown })),
        refl,
        refl,
      );
    }

pub push-requires : goal.push-requires
push-requires g c = let l = c.self.inside in let table = (facts_of l.domain.now.table) in let q = c.self.invariant.0 in
    let by = c.into_owner-owner.ensures.owner (has_tables c.args.self.now c.args.right c.requires.home) in let shown : Gv = c.into_owner-owner.result.1.shown in
    let slot : ℕ = c.number-slot.result in let shared : Bool = is_shared (kind_of c.args.right) in
    let took = c.take_in.ensures slot shared shown (by.owner ∙ ap (λ (k : ℕ). witness_of_owner k shared shown) (sym c.number-slot.ensures)) in
    let same = same_recalled table l.place slot shared shown l.seat c.recall.new.seat (c.recall.ensures slot shared shown
    (by.owner ∙ ap (λ (k : ℕ). witness_of_owner k shared shown) (sym c.number-slot.ensures))) in
    let retires = c.if-not-let_one_go.ensures.went.2.0.1 in let waits = ap (λ (v : View). items_at slot v) took.3 in
    let privates = ap (λ (v : View). privates_at slot v) took.3 in let w = ap (λ (t : Seat ValueFraction View). items_at slot t.me.0) same in
    let z = ap (λ (t : Seat ValueFraction View). privates_at slot t.me.0) same in let none_waits = retires.6 in let none_private = retires.7 in
    let inside : number_of c.args.right < slots_of table = search rules in let number = c.number-slot.ensures in
    let left = room_left (slots_of table) (known_waiting l.seat.me.0.slots) l.own.bags.waiting l.due.items c.self.invariant.4.bags (most_waiting_of table) slot
    (omega arith) q.waiting (omega arith) (omega arith) (omega arith) in
    let most = q.room in omega arith

-- what was known before the owner was recalled and taken in is known still
pub take_in-requires : goal.take_in-requires
take_in-requires g c =
    let q = c.self.invariant.0 in let l = c.self.inside in let slot : ℕ = number_of c.args.right in let shared : Bool = is_shared (kind_of c.args.right) in
    let by = c.into_owner-owner.ensures.owner (has_tables c.args.self.now c.args.right c.requires.home) in let shown : Gv = c.into_owner-owner.result.1.shown in
    let same = same_recalled (facts_of l.domain.now.table) l.place slot shared shown l.seat c.recall.new.seat (c.recall.ensures slot shared shown by.owner)
    in record {
      rests = ap (λ (x : Seat ValueFraction View). x.me.0.fractions.moves) same ∙ q.rests;
      owner =
          let b = (facts_of c.self.inside.domain.now.table) in let tables = by.table in let mine = ap (λ (h : GhostName). h.tables) c.requires.home in
          let there = ap (λ (m : LocalState _). m.home) c.self.view_is in let table = q.home in
          let same_table : c.into_owner-owner.result.0.table_id ≡ id_of b = cc in (
            same_table ∙ sym (ap (λ (x : Seat ValueFraction View). x.table_id) same ∙ q.home),
            (
              number_of c.args.right,
              is_shared (kind_of c.args.right),
              c.into_owner-owner.result.1.shown,
              by.owner,
            ),
          );
    }

pub returns-clause-went : goal.returns-clause-went
returns-clause-went g c =
    let q = c.self.invariant.0 in let l = c.self.inside in let slot : ℕ = number_of c.args.right in let shared : Bool = is_shared (kind_of c.args.right) in
    let shown : Gv = c.into_owner-owner.result.1.shown in let took = taken g (goal.at.returns-clause-went g c).After-take_in in
    let kind : c.is_one_of_several-shared.result ≡ shared = c.is_one_of_several-shared.ensures ∙ ap is_shared (sym c.requires.kind) in
    let went = subst (λ (z : ℕ × Bool). MovedAlone (LetsOneGo z.0 z.1 true) c.take_in.new.seat c.let_one_go.new.seat)
    (λ d. (c.number-slot.ensures d, kind d)) c.if-not-let_one_go.ensures.went in
    let y : ℕ = retired_word shared in let waits : Moved (LetsWait slot) c.take_in.new.seat y c.let_one_go.new.seat = (went.0, went.1, went.2.0) in
    let retired = retires_to (facts_of l.domain.now.table) l.place l.own y slot shared shown l.seat c.take_in.new.seat c.let_one_go.new.seat q took waits in
    let own_is : c.set_has_garbage.new.self ≡ awaiting (Item slot) l.own
    = c.set_has_garbage.ensures ∙ (ap (λ (bags : Bags). with_garbage (record l.own { bags = bags })) c.push.ensures ∙ ap (λ (k : ℕ). awaiting
    (Item k) l.own) (c.of.ensures ∙ c.number-slot.ensures)) in
    let old : LocalState _ = c.self.view_is 0 in let home : c.let_one_go.new.seat.table_id ≡ l.seat.table_id = waits.0 ∙ took.0 in
    let alone : IsLone old → l.seat.me.0.epoch.all ≡ 1 = λ one. (q.all ∙ ap (λ (z : Sizes). z.participants) l.domain.now.limited.1) ∙ one in (
      retired.0,
      subst (λ (m : LocalState _). RetiresAt slot shared retired.0 m
          (record (with_view old c.let_one_go.new.seat.table_id c.let_one_go.new.seat.me.0) { own = c.set_has_garbage.new.self })) c.self.view_is record {
            member = λ d. record (with_view old (home d) (retired.1 d)) { own = own_is d };
            knew = retired.2;
            lone = λ one. retired.3 (alone one);
            last = λ one several. sym (subst (λ (v : View). Knew slot v (claimed_word true)) took.3 (went.2.1 several) (alone one));
          },
    )

pub returns-then-not-let_one_go-clause-went : goal.returns-then-not-let_one_go-clause-went
returns-then-not-let_one_go-clause-went g c =
    let q = c.self.invariant.0 in let l = c.self.inside in let slot : ℕ = number_of c.args.right in let shared : Bool = is_shared (kind_of c.args.right) in
    let shown : Gv = c.into_owner-owner.result.1.shown in let took = taken g (goal.at.returns-then-not-let_one_go-clause-went g c).After-take_in in
    let went = subst (λ (k : ℕ). MovedAlone (LeavesOthers k) c.take_in.new.seat c.let_one_go.new.seat) c.number-slot.ensures
    c.if-not-let_one_go.ensures.went in
    let left = leaves_to (facts_of l.domain.now.table) l.place l.own slot shared shown l.seat c.take_in.new.seat c.let_one_go.new.seat q took went in
    let old : LocalState _ = c.self.view_is 0 in let home : c.let_one_go.new.seat.table_id ≡ l.seat.table_id = went.0 ∙ took.0 in
    let alone : IsLone old → l.seat.me.0.epoch.all ≡ 1 = λ one. (q.all ∙ ap (λ (z : Sizes). z.participants) l.domain.now.limited.1) ∙ one in (
      went.2.word,
      subst (λ (m : LocalState _). LeavesAt slot went.2.word m
          (with_view old c.let_one_go.new.seat.table_id c.let_one_go.new.seat.me.0)) c.self.view_is record {
            member = λ d. with_view old (home d) (left.0 d);
            counted = went.2.counted;
            several = went.2.several;
            lone = λ one. sym (subst (λ (v : View). Knew slot v went.2.word) took.3 went.2.knew (alone one));
          },
    )

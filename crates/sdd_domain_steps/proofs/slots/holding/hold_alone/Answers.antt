use Rattle.sdd_domain_steps.specs.InPlace.{LooksAround}
use Rattle.sdd_atomics.specs.SeatAtTable.{facts_at}
use Rattle.std.proofs.Common.{◌<◌, ℕ, List, ◌∷◌, sym, ap, ◌∙◌, subst, rules, ◌≡◌}
use base.Stored.{Gv}
use lib.ListN.{get_elem?}
use Rattle.sdd_rights.specs.declared.views.ShownValue.{ShownValue}
use Rattle.sdd_rights.specs.declared.views.View.{View}
use Rattle.sdd_domain_invariant.specs.Slots.SlotSteps.{Knew}
use Rattle.sdd_domain_invariant.specs.Slots.FilledInvariant.{HasRecord}
use Rattle.sdd_atomics.specs.TableFacts.{places_of}
use Rattle.sdd_domain_steps.proofs.HeldSlots.{only, only_record, taken_view, unmoved_at_once, same_at_once, owns_at_once, held_view, looked_view, held_by, back_view, let_go, same_owner, owns_one}
use Rattle.sdd_domain_steps.proofs.slots.holding.hold_alone.Goals as goal

pub grasp-requires : goal.grasp-requires
grasp-requires c =
    let r = c.requires in let value : Gv = r.owner.1.0 in let took = c.take_in.ensures c.args.slot c.args.shared value r.owner.1.1 in record {
      ready = record {
        place = subst (λ (k : ℕ). 0 < k) (sym (ap (λ (v : View). v.epoch.state) took.3)) r.place.0;
        rests = ap (λ (v : View). v.fractions.moves) took.3 ∙ r.bare.rests;
      };
      inside = search rules;
      told = (value, (0, ap (λ (v : View). get_elem? v.fractions.owns 0) took.3));
      free = ap (λ (v : View). v.slots.holds) took.3 ∙ r.bare.quiet.holds;
    }

pub cut-requires : goal.cut-requires
cut-requires c =
    let b = (facts_at c.args.seat.now) in let r = c.requires in let value : Gv = r.owner.1.0 in let s = c.args.seat.now in
    let took = c.take_in.ensures c.args.slot c.args.shared value r.owner.1.1 in
    let is = taken_view b c.args.slot c.args.shared value s c.take_in.new.seat c.grasp.new.seat c.grasp.new.seat took c.in-Some.ensures.0 r.bare in record {
      ready = record {
        place = subst (λ (k : ℕ). 0 < k) (sym (ap (λ (v : View). v.epoch.state) is)) r.place.0;
        rests = ap (λ (v : View). v.fractions.moves) is ∙ r.bare.rests;
      };
      one =
          let one = owns_at_once b c.args.slot c.args.shared value s c.take_in.new.seat c.grasp.new.seat c.grasp.new.seat took c.in-Some.ensures.0 r.bare in
          (c.args.slot, one.0, one.1);
      free = ap (λ (v : View). v.slots.holds) is ∙ r.bare.quiet.holds;
    }

pub returns-in-Some : goal.returns-in-Some
returns-in-Some c = let b = (facts_at c.args.seat.now) in let r = c.requires in let value : Gv = r.owner.1.0 in let s = c.args.seat.now in
    let took = c.take_in.ensures c.args.slot c.args.shared value r.owner.1.1 in let others = c.in-Some.ensures.1 in (
      (
        unmoved_at_once b c.args.slot c.args.shared value s c.take_in.new.seat c.grasp.new.seat c.cut.new.seat took c.in-Some.ensures.0 r.bare
            c.cut.ensures.participant,
        record {
          several = others.several;
          counted = others.counted;
          more = others.more;
          knew = subst (λ (v : View). Knew c.args.slot v c.in-Some.word) took.3 others.knew;
        },
      ),
      c.cut.ensures.owner.0 ∙ (c.in-Some.ensures.0.0 ∙ took.0),
      same_at_once b c.args.slot c.args.shared value s c.take_in.new.seat c.grasp.new.seat c.cut.new.seat took c.in-Some.ensures.0 r.bare c.cut.result.views
          c.cut.ensures.owner.1 ∙ sym r.owner.1.1,
    )

pub none_is_open-requires : goal.none_is_open-requires
none_is_open-requires c =
    let b = (facts_at c.args.seat.now) in let r = c.requires in let value : Gv = r.owner.1.0 in let s = c.args.seat.now in
    let took = c.take_in.ensures c.args.slot c.args.shared value r.owner.1.1 in
    let is = held_view b c.args.slot c.args.shared value s c.take_in.new.seat c.grasp.new.seat took c.in_default.ensures.0 c.in_default.ensures.1 in record {
      place = (
        subst (λ (k : ℕ). 0 < k) (sym (ap (λ (v : View). v.epoch.state) is)) r.place.0,
        subst (λ (v : View). v.epoch.place < v.sizes.participants) (sym is) r.place.1,
        subst (λ (v : View). v.epoch.all ≡ v.sizes.participants) (sym is) r.place.2,
      );
      first = ap (λ (v : View). v.slots.looked) is;
    }

pub let_go-requires : goal.let_go-requires
let_go-requires c =
    let b = (facts_at c.args.seat.now) in let r = c.requires in let value : Gv = r.owner.1.0 in let s = c.args.seat.now in
    let took = c.take_in.ensures c.args.slot c.args.shared value r.owner.1.1 in
    let is = looked_view b c.args.slot c.args.shared value s c.take_in.new.seat c.grasp.new.seat took c.in_default.ensures.0 c.in_default.ensures.1
    (places_of b) c.none_is_open.result c.none_is_open.new.seat (subst (λ (k : ℕ). LooksAround k c.none_is_open.result c.grasp.new.seat
    c.none_is_open.new.seat) (ap (λ (v : View). v.sizes.participants)
    (held_view b c.args.slot c.args.shared value s c.take_in.new.seat c.grasp.new.seat took c.in_default.ensures.0 c.in_default.ensures.1))
    c.none_is_open.ensures) in record {
      ready = record {
        place = subst (λ (k : ℕ). 0 < k) (sym (ap (λ (v : View). v.epoch.state) is)) r.place.0;
        rests = ap (λ (v : View). v.fractions.moves) is ∙ r.bare.rests;
      };
      inside = search rules;
      held = ap (λ (v : View). v.slots.holds) is;
      told = λ q told _. only_record c.args.slot c.args.shared value q
          (subst (λ (l : List ShownValue). HasRecord l q)
          (ap (λ (v : View). v.fractions.owns) is ∙ ap (λ (l : List ShownValue). only c.args.slot c.args.shared value ∷ l) r.bare.untold) told);
    }

pub cut-requires-2 : goal.cut-requires-2
cut-requires-2 c =
    let b = (facts_at c.args.seat.now) in let r = c.requires in let value : Gv = r.owner.1.0 in let s = c.args.seat.now in
    let took = c.take_in.ensures c.args.slot c.args.shared value r.owner.1.1 in
    let is = back_view b c.args.slot c.args.shared value s c.take_in.new.seat c.grasp.new.seat took c.in_default.ensures.0 c.in_default.ensures.1
    (places_of b) c.none_is_open.result c.none_is_open.new.seat (subst (λ (k : ℕ). LooksAround k c.none_is_open.result c.grasp.new.seat
    c.none_is_open.new.seat) (ap (λ (v : View). v.sizes.participants)
    (held_view b c.args.slot c.args.shared value s c.take_in.new.seat c.grasp.new.seat took c.in_default.ensures.0 c.in_default.ensures.1))
    c.none_is_open.ensures) r.bare r.closes c.let_go.new.seat c.let_go.ensures in record {
      ready = record {
        place = subst (λ (k : ℕ). 0 < k) (sym (ap (λ (v : View). v.epoch.state) is)) r.place.0;
        rests = ap (λ (v : View). v.fractions.moves) is ∙ r.bare.rests;
      };
      one =
          let one = owns_one b c.args.slot c.args.shared value s c.take_in.new.seat c.grasp.new.seat took c.in_default.ensures.0 c.in_default.ensures.1
          (places_of b) c.none_is_open.result c.none_is_open.new.seat (subst (λ (k : ℕ). LooksAround k c.none_is_open.result c.grasp.new.seat
          c.none_is_open.new.seat) (ap (λ (v : View). v.sizes.participants)
          (held_view b c.args.slot c.args.shared value s c.take_in.new.seat c.grasp.new.seat took c.in_default.ensures.0 c.in_default.ensures.1))
          c.none_is_open.ensures) r.bare r.closes c.let_go.new.seat c.let_go.ensures in
          (c.args.slot, one.0, one.1);
      free = search rules;
    }

pub returns-then-none_is_open : goal.returns-then-none_is_open
returns-then-none_is_open c value views = let b = (facts_at c.args.seat.now) in let s = c.args.seat.now in
    let took = c.take_in.ensures c.args.slot c.args.shared value views in held_by b c.args.slot c.args.shared value s c.take_in.new.seat c.grasp.new.seat
    took c.in_default.ensures.0 c.in_default.ensures.1 (places_of b) c.none_is_open.result c.none_is_open.new.seat
    (subst (λ (k : ℕ). LooksAround k c.none_is_open.result c.grasp.new.seat c.none_is_open.new.seat) (ap (λ (v : View). v.sizes.participants)
    (held_view b c.args.slot c.args.shared value s c.take_in.new.seat c.grasp.new.seat took c.in_default.ensures.0 c.in_default.ensures.1))
    c.none_is_open.ensures) c.if-none_is_open.true

pub returns : goal.returns
returns c = let b = (facts_at c.args.seat.now) in let r = c.requires in let value : Gv = r.owner.1.0 in let s = c.args.seat.now in
    let took = c.take_in.ensures c.args.slot c.args.shared value r.owner.1.1 in
    let is = held_view b c.args.slot c.args.shared value s c.take_in.new.seat c.grasp.new.seat took c.in_default.ensures.0 c.in_default.ensures.1 in (
      let_go b c.args.slot c.args.shared value s c.take_in.new.seat c.grasp.new.seat took c.in_default.ensures.0 c.in_default.ensures.1 (places_of b)
          c.none_is_open.result c.none_is_open.new.seat (subst (λ (k : ℕ). LooksAround k c.none_is_open.result c.grasp.new.seat c.none_is_open.new.seat) (ap
          (λ (v : View). v.sizes.participants)
          (held_view b c.args.slot c.args.shared value s c.take_in.new.seat c.grasp.new.seat took c.in_default.ensures.0 c.in_default.ensures.1))
          c.none_is_open.ensures) r.bare r.closes c.let_go.new.seat c.let_go.ensures c.cut-2.new.seat
          c.cut-2.ensures.participant
          (λ lone. sym (ap (λ (v : View). v.epoch.state) is)
          ∙ c.none_is_open.ensures.met c.if-none_is_open.false (ap (λ (v : View). v.epoch.all) is ∙ lone)),
      c.cut-2.ensures.owner.0 ∙ (c.let_go.ensures.0 ∙ (c.none_is_open.ensures.table ∙ (c.in_default.ensures.0.0 ∙ took.0))),
      same_owner b c.args.slot c.args.shared value s c.take_in.new.seat c.grasp.new.seat took c.in_default.ensures.0 c.in_default.ensures.1 (places_of b)
          c.none_is_open.result c.none_is_open.new.seat (subst (λ (k : ℕ). LooksAround k c.none_is_open.result c.grasp.new.seat c.none_is_open.new.seat) (ap
          (λ (v : View). v.sizes.participants)
          (held_view b c.args.slot c.args.shared value s c.take_in.new.seat c.grasp.new.seat took c.in_default.ensures.0 c.in_default.ensures.1))
          c.none_is_open.ensures) r.bare r.closes c.let_go.new.seat c.let_go.ensures c.cut-2.result.views
          c.cut-2.ensures.owner.1 ∙ sym r.owner.1.1,
    )

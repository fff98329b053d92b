use Rattle.sdd_atomics.specs.SeatAtTable.{facts_at}
use Rattle.std.proofs.Common.{ℕ, ◌<◌, refl, ap, sym, ◌∙◌, subst, rules}
use lib.ListN.{get_elem?}
use Rattle.sdd_atomics.specs.TableFacts.{gamma_of}
use Rattle.sdd_atomics.specs.ReadFractions.{IsReadFractionOf, IsUnitOf}
use Rattle.std.specs.Prelude.{true}
use base.Stored.{Gv}
use Rattle.sdd_rights.specs.Owner.{one-shown}
use Rattle.sdd_shared_values.specs.SharedValues.{IsValueCode}
use Rattle.sdd_shared_values.specs.ValueFractions.{FractionContent}
use Rattle.sdd_domain_invariant.specs.Slots.Records.{IsIn}
use Rattle.sdd_rights.specs.declared.views.View.{View}
use Rattle.sdd_domain_steps.proofs.GoesBeside.{entered_view, entered_owns, entered_told, gone, still_place, still_rests, still_told, still_owns, never_lone, unit_is, drawn_home, drawn_place, drawn_owns, drawn_free, back_unmoved, back_shows, back_read_fraction}
use Rattle.sdd_domain_steps.proofs.slots.values.leave_beside.Goals as goal

pub unit_of-requires : goal.unit_of-requires
unit_of-requires c = let o = c.requires.owner in let took = c.take_in.ensures c.args.slot true o.1.0 o.1.1 in
    subst (λ (g : ℕ). IsUnitOf g c.args.slot c.args.read_fraction) (sym (ap (λ (v : View). v.fractions.gamma) took.3)) o.1.2.unit

pub enter_unit-requires : goal.enter_unit-requires
enter_unit-requires c =
    let r = c.requires in let o = r.owner in let value : Gv = o.1.0 in let s = c.args.seat.now in let took = c.take_in.ensures c.args.slot true value o.1.1 in
    record {
      inside = search rules;
      place = subst (λ (k : ℕ). 0 < k) (sym (ap (λ (v : View). v.epoch.state) took.3)) r.place;
      own = (s.me.0.slots.drawn, ap (λ (v : View). v.slots.drawn) took.3);
      unit = search rules;
      told =
          let there : IsIn c.take_in.new.seat.me.0.fractions.owns c.args.slot value =
          (0, record { slot = c.args.slot; shared = true; value = value }, ap (λ (v : View). get_elem? v.fractions.owns 0) took.3, refl, refl) in
          subst (IsIn c.take_in.new.seat.me.0.fractions.owns c.args.slot) (sym (c.unit_of.ensures.shown ∙ o.1.2.shows)) there;
    }

pub leave-requires : goal.leave-requires
leave-requires c =
    let b = (facts_at c.args.seat.now) in let r = c.requires in let o = r.owner in let value : Gv = o.1.0 in let s = c.args.seat.now in
    let k : ℕ = c.args.slot in
    let took = c.take_in.ensures k true value o.1.1 in let t = c.take_in.new.seat in let e = c.enter_unit.new.seat in let in_it = c.enter_unit.ensures in
    let is = entered_view b k value s t e r.bare took in_it in record {
      ready = record {
        place = subst (λ (k : ℕ). 0 < k) (sym (ap (λ (v : View). v.epoch.state) is)) r.place;
        rests = ap (λ (v : View). v.fractions.moves) is ∙ r.bare.rests;
      };
      inside = search rules;
      own = entered_owns b k value s t e r.bare took in_it;
      told = (value, entered_told b k value s t e r.bare took in_it);
      several = search rules;
    }

pub returns-then-leave-word : goal.returns-then-leave-word
returns-then-leave-word c =
    let b = (facts_at c.args.seat.now) in let r = c.requires in let o = r.owner in let value : Gv = o.1.0 in let s = c.args.seat.now in
    let k : ℕ = c.args.slot in
    let took = c.take_in.ensures k true value o.1.1 in let t = c.take_in.new.seat in let e = c.enter_unit.new.seat in let in_it = c.enter_unit.ensures in
    gone b k value s t e r.bare took in_it c.args.word c.leave.result c.leave.new.seat c.leave.ensures c.if-leave-word.true

pub draw_unit-requires : goal.draw_unit-requires
draw_unit-requires c =
    let b = (facts_at c.args.seat.now) in let r = c.requires in let o = r.owner in let value : Gv = o.1.0 in let s = c.args.seat.now in
    let k : ℕ = c.args.slot in
    let took = c.take_in.ensures k true value o.1.1 in let t = c.take_in.new.seat in let e = c.enter_unit.new.seat in let in_it = c.enter_unit.ensures in
    let word : ℕ = c.args.word in let found = c.leave.result in let f = c.leave.new.seat in let left = c.leave.ensures in let no = c.if-leave-word.false in
    let free = still_owns b k value s t e r.bare took in_it word found f left no in record {
      ready = record {
        place = still_place b k value s t e r.bare took in_it word found f left no r.place;
        rests = still_rests b k value s t e r.bare took in_it word found f left no;
      };
      inside = search rules;
      own = ((true, value, still_told b k value s t e r.bare took in_it word found f left no), free.0, free.1);
    }

pub into_read_fraction-read_fraction-requires : goal.into_read_fraction-read_fraction-requires
into_read_fraction-read_fraction-requires c =
    let b = (facts_at c.args.seat.now) in let r = c.requires in let o = r.owner in let value : Gv = o.1.0 in let s = c.args.seat.now in
    let k : ℕ = c.args.slot in
    let took = c.take_in.ensures k true value o.1.1 in let t = c.take_in.new.seat in let e = c.enter_unit.new.seat in let in_it = c.enter_unit.ensures in
    let word : ℕ = c.args.word in let found = c.leave.result in let f = c.leave.new.seat in let left = c.leave.ensures in let no = c.if-leave-word.false in
    let content = c.draw_unit.result.content in let d = c.draw_unit.new.seat in let drew = c.draw_unit.ensures in
    let is = unit_is b k value s t e r.bare took in_it word found f left no content d drew (refl, refl) in record {
      full = subst IsValueCode (o.1.2.shows ∙ sym (ap (λ (x : FractionContent). x.shown) is)) c.args.read_fraction.full;
      one = ap (λ (x : FractionContent). x.units) is;
      free = ap (λ (x : FractionContent). x.lent) is;
    }

pub cut-requires : goal.cut-requires
cut-requires c =
    let b = (facts_at c.args.seat.now) in let r = c.requires in let o = r.owner in let value : Gv = o.1.0 in let s = c.args.seat.now in
    let k : ℕ = c.args.slot in
    let took = c.take_in.ensures k true value o.1.1 in let t = c.take_in.new.seat in let e = c.enter_unit.new.seat in let in_it = c.enter_unit.ensures in
    let word : ℕ = c.args.word in let found = c.leave.result in let f = c.leave.new.seat in let left = c.leave.ensures in let no = c.if-leave-word.false in
    let content = c.draw_unit.result.content in let d = c.draw_unit.new.seat in let drew = c.draw_unit.ensures in
    let one = drawn_owns b k value s t e r.bare took in_it word found f left no content d drew (refl, refl) in
    let free = drawn_free b k value s t e r.bare took in_it word found f left no content d drew (refl, refl) in record {
      ready = record {
        place = drawn_place b k value s t e r.bare took in_it word found f left no content d drew (refl, refl) r.place;
        rests = free.1;
      };
      one = (k, one.0, one.1);
      free = free.0;
    }

pub returns : goal.returns
returns c =
    let b = (facts_at c.args.seat.now) in let r = c.requires in let o = r.owner in let value : Gv = o.1.0 in let s = c.args.seat.now in
    let k : ℕ = c.args.slot in
    let took = c.take_in.ensures k true value o.1.1 in let t = c.take_in.new.seat in let e = c.enter_unit.new.seat in let in_it = c.enter_unit.ensures in
    let word : ℕ = c.args.word in let found = c.leave.result in let f = c.leave.new.seat in let left = c.leave.ensures in let no = c.if-leave-word.false in
    let content = c.draw_unit.result.content in let d = c.draw_unit.new.seat in let drew = c.draw_unit.ensures in (
      back_unmoved b k value s t e r.bare took in_it word found f left no content d drew (refl, refl) c.cut.new.seat c.cut.ensures.participant,
      c.cut.ensures.owner.0 ∙ drawn_home b k value s t e r.bare took in_it word found f left no content d drew (refl, refl),
      back_shows b k value s t e r.bare took in_it word found f left no content d drew (refl, refl) c.cut.result.views c.cut.ensures.owner.1 ∙ sym o.1.1,
      (λ other is. subst (λ (g : Gv). IsReadFractionOf (gamma_of b) k g c.into_read_fraction-read_fraction.result) (one-shown k true value other (sym o.1.1
          ∙ is))
          (back_read_fraction b k value s t e r.bare took in_it word found f left no content d drew (
            refl,
            refl,
          ) c.into_read_fraction-read_fraction.result c.into_read_fraction-read_fraction.ensures)),
      never_lone b k value s t e r.bare took in_it word found f left no,
    )

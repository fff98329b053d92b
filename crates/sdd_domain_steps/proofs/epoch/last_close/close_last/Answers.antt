use Rattle.sdd_rights.specs.declared.views.Sizes.{Sizes}
use Rattle.sdd_atomics.specs.SeatAtTable.{facts_at}
use Rattle.std.proofs.Common.{ℕ, List, ap, sym, ◌∙◌, subst}
use Rattle.atomic_table.specs.declared.shared.Seat.{Seat}
use Rattle.sdd_rights.specs.declared.fraction.Fraction.{Fraction}
use Rattle.sdd_values.specs.declared.read_sections.SectionState.{SectionState}
use Rattle.sdd_shared_values.specs.declared.value_fraction.ValueFraction.{ValueFraction}
use Rattle.sdd_rights.specs.declared.views.ShownValue.{ShownValue}
use Rattle.sdd_rights.specs.declared.views.View.{View}
use Rattle.sdd_domain_invariant.specs.Fractions.FractionSteps.{CarriesSeen}
use Rattle.sdd_atomics.specs.TableFacts.{gamma_of, places_of}
use Rattle.sdd_domain_steps.proofs.MovedValues.{all_settled, may_settle, carries_nothing, none_lent}
use Rattle.sdd_domain_steps.proofs.epoch.last_close.close_last.Goals as goal

pub settle-requires : goal.settle-requires
settle-requires c = record {
  lent = may_settle c.args.section.now.lifetime c.end_section-ended.result.name c.args.seat.now.me.1
      (c.end_section-ended.ensures.ended ∙ (ap (λ (t : Fraction SectionState). t.lifetime) c.set.ensures ∙ ap (λ (t : Fraction SectionState). t.lifetime)
      c.join.ensures.joined))
      c.requires.lent;
}

pub close-requires-clause-carries : goal.close-requires-clause-carries
close-requires-clause-carries c = let b = (facts_at c.args.seat.now) in let settled = c.settle.ensures in
    let place = c.requires.own.0 ∙ sym (ap (λ (s : Seat ValueFraction View). s.me.0.epoch.place) settled) in
    let known = ap (λ (s : Seat ValueFraction View). s.me.0) settled in
    subst (λ (t : ℕ × List ShownValue × ℕ × Sizes). CarriesSeen t.2 t.3.participants t.0 t.1 c.settle.new.seat.me.1)
    (λ d. (place d, (sym known d).fractions.sees, (sym known d).fractions.gamma, (sym known d).sizes))
    (all_settled (gamma_of b) (places_of b) c.args.place c.args.seat.now.me.0.fractions.sees c.args.seat.now.me.1 c.settle.new.seat.me.1
    (ap (λ (s : Seat ValueFraction View). s.me.1) settled) c.requires.carries)

pub returns-clause-carries : goal.returns-clause-carries
returns-clause-carries c = let b = (facts_at c.args.seat.now) in let e = c.close.ensures.2 in
    carries_nothing (gamma_of b) (places_of b) c.args.place c.close.new.seat.me.0.fractions.sees c.close.new.seat.me.1 (ap (λ
    (v : View). v.fractions.sees) e.2) e.3

pub returns-clause-lent : goal.returns-clause-lent
returns-clause-lent c = none_lent c.end_section-ended.new.section.lifetime c.close.new.seat.me.1 c.close.ensures.2.3

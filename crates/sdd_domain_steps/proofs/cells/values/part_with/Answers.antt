use base.Stored.{Gv}
use Rattle.sdd_atomics.specs.SeatAtTable.{facts_at}
use Rattle.std.proofs.Common.{◌≡◌, ℕ, List, [], ◌∷◌, sym, refl, ap, ◌∙◌, subst}
use Rattle.sdd_shared_values.specs.ValueFractions.{FractionContent}
use Rattle.sdd_shared_values.specs.SharedValues.{IsValueCode, content}
use Rattle.sdd_rights.specs.declared.views.View.{View}
use Rattle.sdd_rights.specs.declared.views.ShownValue.{ShownValue}
use Rattle.sdd_rights.specs.contracts.views.View.{the_row}
use Rattle.sdd_domain_invariant.specs.Slots.Records.{IsIn}
use Rattle.sdd_domain_invariant.specs.Fractions.FractionSteps.{departing}
use Rattle.sdd_atomics.specs.TableFacts.{gamma_of}
use Rattle.sdd_domain_steps.proofs.cells.values.part_with.Goals as goal

pub into_read_fraction-read_fraction-requires : goal.into_read_fraction-read_fraction-requires
into_read_fraction-read_fraction-requires c =
    let told = c.requires.told in let slot : ℕ = c.args.slot in let value : Gv = told.1 in
    let here : IsIn c.args.seat.now.me.0.fractions.owns slot value = subst (λ (l : List ShownValue). IsIn l slot value) (sym told.3)
    (0, record { slot = slot; shared = told.0; value = value }, refl, refl, refl) in record {
      full = let unit = c.draw_unit.ensures.2.2 value here in subst IsValueCode (sym (ap (λ (k : FractionContent). k.shown) unit)) told.2;
      one = ap (λ (k : FractionContent). k.units) (c.draw_unit.ensures.2.2 value here);
      free = ap (λ (k : FractionContent). k.lent) (c.draw_unit.ensures.2.2 value here);
    }

pub cut-owner-requires-clause-one : goal.cut-owner-requires-clause-one
cut-owner-requires-clause-one c = let is = c.draw_unit.ensures.2.0 in (
  c.args.slot,
  ap (λ (v : View). v.slots.owns) is ∙ c.requires.quiet.0,
  ap (λ (v : View). v.slots.drawn) is ∙ ap (λ (l : List ℕ). c.args.slot ∷ l) c.requires.quiet.1,
)

pub returns-clause-owner : goal.returns-clause-owner
returns-clause-owner c = λ shared value owns. let slot : ℕ = c.args.slot in let b = (facts_at c.args.seat.now) in let is = c.draw_unit.ensures.2.0 in
    let here : IsIn c.args.seat.now.me.0.fractions.owns slot value = subst (λ (l : List ShownValue). IsIn l slot value) (sym owns)
    (0, record { slot = slot; shared = shared; value = value }, refl, refl, refl) in
    let l : FractionContent = c.draw_unit.result.content in
    let unit : l ≡ content (gamma_of b) slot l.lifetime value 1 = c.draw_unit.ensures.2.2 value here
    ∙ ap (λ (k : ℕ). content k slot l.lifetime value 1) refl in
    let e = c.into_read_fraction-read_fraction.ensures ∙ unit in let v : View = c.args.seat.now.me.0 in
    let shows : c.into_read_fraction-read_fraction.result.shown ≡ value = ap (λ (k : FractionContent). k.shown) e in (
      record {
        inside = c.requires.inside;
        table = c.cut-owner.ensures.owner.0 ∙ c.draw_unit.ensures.0;
        views = c.cut-owner.ensures.owner.1 ∙ ap (λ (w : View). the_row.coded.code w ∷ []) (ap departing is ∙ (λ d. departing (record v {
          slots = record v.slots { owns = c.requires.quiet.0 d; drawn = slot ∷ v.slots.drawn };
          fractions = record v.fractions { owns = (owns ∙ (λ d. record { slot = slot; shared = shared; value = sym shows d } ∷ [])) d };
        })));
        unit = record { gamma_is = ap (λ (k : FractionContent). k.gamma) e; number_is = ap (λ (k : FractionContent). k.number) e };
      },
      shows,
    )

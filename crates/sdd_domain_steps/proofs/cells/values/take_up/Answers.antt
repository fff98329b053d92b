use lib.ListN.{get_elem?}
use Rattle.sdd_atomics.specs.ReadFractions.{IsUnitOf}
use Rattle.sdd_rights.specs.declared.views.Sizes.{Sizes}
use Rattle.sdd_atomics.specs.SeatAtTable.{facts_at}
use Rattle.std.proofs.Common.{ℕ, Bool, List, [], ◌∷◌, sym, refl, ap, ◌∙◌, subst, ◌<◌}
use Rattle.std.specs.Prelude.{Option}
use Rattle.sdd_rights.specs.declared.views.View.{View}
use Rattle.sdd_domain_invariant.specs.Epoch.{HasPlace}
use Rattle.sdd_domain_invariant.specs.Fractions.FractionSteps.{undrawing}
use Rattle.sdd_domain_steps.specs.declared.cells.values.LooseOwner.{LooseOwner}
use Rattle.sdd_domain_steps.specs.Cells.{IsLoose, TakesUp}
use Rattle.sdd_domain_steps.proofs.cells.values.take_up.Goals as goal

pub unit_of-unit-requires : goal.unit_of-unit-requires
unit_of-unit-requires c = let o = rw c.in-Some.is at c.requires.owner in
    let took = c.take_in.ensures c.in-Some.loose.slot o.0 c.in-Some.loose.read_fraction.shown o.1.views in
    subst (λ (g : ℕ). IsUnitOf g c.in-Some.loose.slot c.in-Some.loose.read_fraction) (sym (ap (λ (v : View). v.fractions.gamma) took.3)) o.1.unit

pub enter_unit-requires-clause-inside : goal.enter_unit-requires-clause-inside
enter_unit-requires-clause-inside c = let o = rw c.in-Some.is at c.requires.owner in
    let took = c.take_in.ensures c.in-Some.loose.slot o.0 c.in-Some.loose.read_fraction.shown o.1.views in
    subst (λ (z : Sizes). c.in-Some.loose.slot < z.slots) (sym (ap (λ (v : View). v.sizes) took.3)) o.1.inside

pub enter_unit-requires-clause-place : goal.enter_unit-requires-clause-place
enter_unit-requires-clause-place c = let o = rw c.in-Some.is at c.requires.owner in
    let took = c.take_in.ensures c.in-Some.loose.slot o.0 c.in-Some.loose.read_fraction.shown o.1.views in
    subst (λ (v : View). HasPlace v.epoch) (sym took.3) c.requires.place

pub enter_unit-requires-clause-own : goal.enter_unit-requires-clause-own
enter_unit-requires-clause-own c = let o = rw c.in-Some.is at c.requires.owner in
    let took = c.take_in.ensures c.in-Some.loose.slot o.0 c.in-Some.loose.read_fraction.shown o.1.views in
    ([], ap (λ (v : View). v.slots.drawn) took.3 ∙ ap (λ (l : List ℕ). c.in-Some.loose.slot ∷ l) c.requires.bare.quiet.drawn)

pub enter_unit-requires-clause-told : goal.enter_unit-requires-clause-told
enter_unit-requires-clause-told c = let o = rw c.in-Some.is at c.requires.owner in let shared : Bool = o.0 in
    let took = c.take_in.ensures c.in-Some.loose.slot shared c.in-Some.loose.read_fraction.shown o.1.views in (
      0,
      record { slot = c.in-Some.loose.slot; shared = shared; value = c.in-Some.loose.read_fraction.shown },
      ap (λ (v : View). get_elem? v.fractions.owns 0) took.3,
      refl,
      sym c.unit_of-unit.ensures.shown,
    )

pub returns : goal.returns
returns c = λ shared known. let enters = c.enter_unit.ensures in let v : View = c.args.seat.now.me.0 in let q = c.requires.bare in
    let is = c.in-Some.is in let o : IsLoose (facts_at c.args.seat.now) shared _ = rw is at known in
    let took = c.take_in.ensures c.in-Some.loose.slot shared c.in-Some.loose.read_fraction.shown o.views in
    subst (λ (new : Option LooseOwner). TakesUp shared new c.args.seat.now c.enter_unit.new.seat) (sym is) record {
      table = enters.0 ∙ took.0;
      number = enters.1 ∙ took.1;
      others = enters.2.1 ∙ took.2;
      view = enters.2.0 ∙ (ap undrawing took.3 ∙ (λ d. record v {
        slots = record v.slots { owns = c.in-Some.loose.slot ∷ q.quiet.owns d };
        fractions = record v.fractions {
          owns = record { slot = c.in-Some.loose.slot; shared = shared; value = c.in-Some.loose.read_fraction.shown } ∷
              q.untold d;
        };
      }));
    }

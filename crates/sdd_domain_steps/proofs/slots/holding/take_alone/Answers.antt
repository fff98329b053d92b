use Rattle.sdd_domain_steps.proofs.TakenValues.{rows_from}
use Rattle.sdd_atomics.specs.SeatAtTable.{facts_at}
use Rattle.std.proofs.Common.{◌≡◌, ℕ, ◌+◌, refl, sym, ap, ◌∙◌, subst, arith}
use base.Stored.{Gv}
use Rattle.atomic_table.specs.declared.shared.Seat.{Seat}
use Rattle.sdd_shared_values.specs.declared.value_fraction.ValueFraction.{ValueFraction}
use Rattle.sdd_shared_values.specs.SharedValues.{IsValueCode, IsNoValueCode, vacant, showing}
use Rattle.sdd_rights.specs.declared.views.View.{View}
use Rattle.sdd_rights.specs.declared.views.ShownValue.{ShownValue}
use Rattle.std.specs.Prelude.{List}
use Rattle.sdd_domain_invariant.specs.Fractions.FractionsAtHome.{CarriedFractions, spare}
use Rattle.sdd_domain_invariant.specs.Fractions.FractionSteps.{CarriesAll, IsValue}
use Rattle.sdd_domain_invariant.specs.Slots.Records.{IsIn}
use Rattle.sdd_atomics.specs.TableFacts.{gamma_of, places_of}
use Rattle.sdd_domain_steps.proofs.MovedValues.{may_move, all_full, row_after, shown_out}
use Rattle.sdd_domain_steps.proofs.slots.holding.take_alone.Goals as goal

pub join_rest-requires-clause-row : goal.join_rest-requires-clause-row
join_rest-requires-clause-row g c = let t = c.enter_unit.new.seat in let b = facts_at t in let entered = c.enter_unit.ensures.2 in
    let out = c.take_held-rest.ensures.taken.2 in (
      out.value,
      t.me.1,
      subst (λ (v : View). CarriesAll v.fractions.gamma c.args.slot v.sizes.participants (spare v.sizes.participants) (IsValue out.value)
          t.me.1 c.take_held-rest.new.seat.me.1) (sym out.view) out.fractions,
    )

pub take-requires-clause-whole : goal.take-requires-clause-whole
take-requires-clause-whole g c = let t = c.enter_unit.new.seat in let b = facts_at t in let entered = c.enter_unit.ensures.2 in
    let out = c.take_held-rest.ensures.taken.2 in let few = c.places-count.ensures.few in
    let row = (rows_from c.args.slot t c.take_held-rest.new.seat c.join_rest.new.seat (
      ap (λ (v : View). v.sizes) out.view,
      ap (λ (v : View). v.fractions.gamma) out.view,
    )
    c.join_rest.ensures.row) out.value t.me.1 (out.fractions) in
    may_move (gamma_of b) c.args.slot (places_of b) (c.places-count.result + 1) (ap (λ (k : ℕ). k + 1) (c.places-count.ensures.places
    ∙ ap (λ (v : View). v.sizes.participants) (c.join_rest.ensures.seat.2 ∙ out.view))) IsValueCode
    c.args.values.now.gamma (c.requires.values.gamma ∙ sym (ap (λ (v : View). v.fractions.gamma) entered.0))
    (omega (
      arith,
      c.places-count.ensures.places ∙ ap (λ (v : View). v.sizes.participants) (c.join_rest.ensures.seat.2
          ∙ out.view),
    )) t.me.1 c.join_rest.new.seat.me.1
    (all_full (gamma_of b) c.args.slot (places_of b) out.value t.me.1 c.join_rest.new.seat.me.1 row)

pub returns-clause-row : goal.returns-clause-row
returns-clause-row g c = let t = c.enter_unit.new.seat in let b = facts_at t in let entered = c.enter_unit.ensures.2 in
    let out = c.take_held-rest.ensures.taken.2 in let take = c.take.ensures.seat in
    let row = (rows_from c.args.slot t c.take_held-rest.new.seat c.join_rest.new.seat (
      ap (λ (v : View). v.sizes) out.view,
      ap (λ (v : View). v.fractions.gamma) out.view,
    )
    c.join_rest.ensures.row) out.value t.me.1 (out.fractions) in
    subst (λ (k : View × CarriedFractions). CarriesAll k.0.fractions.gamma c.args.slot k.0.sizes.participants 0 IsNoValueCode k.1 c.take.new.seat.me.1)
    (λ d. (entered.0 d, entered.1 d))
    (row_after (gamma_of b) c.args.slot (places_of b) (c.places-count.result + 1) (ap (λ (k : ℕ). k + 1) (c.places-count.ensures.places
    ∙ ap (λ (v : View). v.sizes.participants) (c.join_rest.ensures.seat.2 ∙ out.view)))
    (IsValue out.value) IsNoValueCode vacant take.0 t.me.1 c.join_rest.new.seat.me.1 c.take.new.seat.me.1 refl row
    (ap (λ (s : Seat ValueFraction View). s.me.1) take.1))

pub returns-clause-value : goal.returns-clause-value
returns-clause-value g c = let t = c.enter_unit.new.seat in let b = facts_at t in let entered = c.enter_unit.ensures.2 in
    let out = c.take_held-rest.ensures.taken.2 in let value = c.take.ensures.value in
    let row = (rows_from c.args.slot t c.take_held-rest.new.seat c.join_rest.new.seat (
      ap (λ (v : View). v.sizes) out.view,
      ap (λ (v : View). v.fractions.gamma) out.view,
    )
    c.join_rest.ensures.row) out.value t.me.1 (out.fractions) in
    let same : showing g.row.T c.take.result ≡ out.value = shown_out (gamma_of b) c.args.slot (places_of b) (c.places-count.result + 1)
    (ap (λ (k : ℕ). k + 1) (c.places-count.ensures.places ∙ ap (λ (v : View). v.sizes.participants) (c.join_rest.ensures.seat.2
    ∙ out.view))) out.value (showing g.row.T c.take.result) c.args.values.now.gamma value.0
    t.me.1 c.join_rest.new.seat.me.1 row value.1 in
    subst (λ (k : List ShownValue × Gv). IsIn k.0 c.args.slot k.1) (λ d. (ap (λ (v : View). v.fractions.owns) entered.0 d, sym same d)) out.told

pub enter_unit-requires-clause-told : goal.enter_unit-requires-clause-told
enter_unit-requires-clause-told g c = subst (IsIn c.args.seat.now.me.0.fractions.owns c.args.slot) (sym c.unit_of-unit.ensures.shown) c.requires.shows

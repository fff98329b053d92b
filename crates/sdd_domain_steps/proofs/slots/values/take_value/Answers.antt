use Rattle.sdd_domain_invariant.specs.Fractions.FractionsAtHome.{spare}
use Rattle.sdd_shared_values.specs.ValueFractions.{FractionContent}
use Rattle.sdd_atomics.specs.SeatAtTable.{facts_at}
use Rattle.std.proofs.Common.{◌≡◌, ℕ, ◌+◌, ap, sym, ◌∙◌, refl, subst, arith}
use Rattle.atomic_table.specs.declared.shared.Seat.{Seat}
use Rattle.sdd_shared_values.specs.declared.value_fraction.ValueFraction.{ValueFraction}
use base.Stored.{Gv}
use Rattle.atomic_table.specs.Seated.{TableId}
use Rattle.sdd_shared_values.specs.SharedValues.{IsValueCode, IsNoValueCode, vacant, showing, content}
use Rattle.sdd_rights.specs.declared.views.View.{View}
use Rattle.sdd_domain_invariant.specs.Slots.{items_at}
use Rattle.sdd_domain_invariant.specs.Slots.SlotSteps.{given_back}
use Rattle.sdd_domain_invariant.specs.Fractions.FractionSteps.{IsValue, IsNewest, forgetting, giving, CarriesAll}
use Rattle.sdd_world_model.specs.OwnerOrCell.{AreOf}
use Rattle.sdd_domain_steps.specs.SpaceIds.{home_of_slots}
use Rattle.sdd_atomics.specs.TableFacts.{gamma_of, places_of}
use Rattle.sdd_domain_steps.proofs.MovedValues.{may_move, all_full, row_after, rest_out, rests_again, shown_out}
use Rattle.sdd_domain_steps.proofs.TakenValues.{row_joined, view_joined, rows_from}
use Rattle.sdd_domain_steps.proofs.slots.values.take_value.Goals as goal

pub join_rest-requires-clause-rest : goal.join_rest-requires-clause-rest
join_rest-requires-clause-rest g c = let l : FractionContent = c.take_out-rest.result.content in
    subst (λ (v : View). l ≡ content v.fractions.gamma c.args.slot l.lifetime l.shown (spare v.sizes.participants))
    (sym c.take_out-rest.ensures.taken.2.view) c.take_out-rest.ensures.deposit

pub join_rest-requires-clause-row : goal.join_rest-requires-clause-row
join_rest-requires-clause-row g c = let out = c.take_out-rest.ensures.taken.2 in (
  out.value,
  c.args.seat.now.me.1,
  subst (λ (v : View). CarriesAll v.fractions.gamma c.args.slot v.sizes.participants (spare v.sizes.participants) (IsValue out.value) c.args.seat.now.me.1
      c.take_out-rest.new.seat.me.1) (sym out.view) out.fractions,
)

pub take-value-requires-clause-whole : goal.take-value-requires-clause-whole
take-value-requires-clause-whole g c = let b = (facts_at c.args.seat.now) in let few = c.places-count.ensures.few in let r = c.requires in
    let out = c.take_out-rest.ensures.taken.2 in
    let row = row_joined b c.args.slot c.args.seat.now c.take_out-rest.new.seat c.join_rest.new.seat (refl, refl) out c.join_rest.ensures.seat
    (rows_from c.args.slot c.args.seat.now c.take_out-rest.new.seat c.join_rest.new.seat (
      ap (λ (v : View). v.sizes) out.view,
      ap (λ (v : View). v.fractions.gamma) out.view,
    ) c.join_rest.ensures.row) in
    may_move (gamma_of b) c.args.slot (places_of b) (c.places-count.result + 1) (ap (λ (k : ℕ). k + 1) (c.places-count.ensures.places
    ∙ ap (λ (v : View). v.sizes.participants) (c.join_rest.ensures.seat.2 ∙ out.view))) IsValueCode
    c.args.values.now.gamma r.values.gamma (omega (
      arith,
      c.places-count.ensures.places
          ∙ ap (λ (v : View). v.sizes.participants) (c.join_rest.ensures.seat.2 ∙ out.view),
    )) c.args.seat.now.me.1 c.join_rest.new.seat.me.1
    (all_full (gamma_of b) c.args.slot (places_of b) out.value c.args.seat.now.me.1 c.join_rest.new.seat.me.1 row)

pub give_back-requires-clause-row : goal.give_back-requires-clause-row
give_back-requires-clause-row g c = let b = (facts_at c.args.seat.now) in let r = c.requires in let take = c.take-value.ensures.seat in
    let out = c.take_out-rest.ensures.taken.2 in
    let row = row_joined b c.args.slot c.args.seat.now c.take_out-rest.new.seat c.join_rest.new.seat (refl, refl) out c.join_rest.ensures.seat
    (rows_from c.args.slot c.args.seat.now c.take_out-rest.new.seat c.join_rest.new.seat (
      ap (λ (v : View). v.sizes) out.view,
      ap (λ (v : View). v.fractions.gamma) out.view,
    ) c.join_rest.ensures.row) in (
      c.args.seat.now.me.1,
      subst (λ (v : View). CarriesAll v.fractions.gamma c.args.slot v.sizes.participants 0 IsNoValueCode c.args.seat.now.me.1 c.take-value.new.seat.me.1)
          (sym (ap (λ (s : Seat ValueFraction View). s.me.0) take.1 ∙ (c.join_rest.ensures.seat.2 ∙ out.view)))
          (row_after (gamma_of b) c.args.slot (places_of b) (c.places-count.result + 1) (ap (λ (k : ℕ). k + 1) (c.places-count.ensures.places
          ∙ ap (λ (v : View). v.sizes.participants) (c.join_rest.ensures.seat.2 ∙ out.view)))
          (IsValue out.value) IsNoValueCode vacant take.0 c.args.seat.now.me.1 c.join_rest.new.seat.me.1 c.take-value.new.seat.me.1 refl row
          (ap (λ (s : Seat ValueFraction View). s.me.1) take.1)),
    )

pub returns-clause-given_back : goal.returns-clause-given_back
returns-clause-given_back g c = let b = (facts_at c.args.seat.now) in let n : ℕ = places_of b in let r = c.requires in let take = c.take-value.ensures.seat in
    let taken = c.take_out-rest.ensures.taken in let out = taken.2 in let joined = c.join_rest.ensures.seat in
    let back = c.give_back.ensures in let v : View = c.args.seat.now.me.0 in let slot : ℕ = c.args.slot in
    let row = row_joined b slot c.args.seat.now c.take_out-rest.new.seat c.join_rest.new.seat (
      refl,
      refl,
    ) out joined (rows_from c.args.slot c.args.seat.now c.take_out-rest.new.seat c.join_rest.new.seat (
      ap (λ (v : View). v.sizes) out.view,
      ap (λ (v : View). v.fractions.gamma) out.view,
    ) c.join_rest.ensures.row) in
    let empty = row_after (gamma_of b) slot n (c.places-count.result + 1) (ap (λ (k : ℕ). k + 1) (c.places-count.ensures.places
    ∙ ap (λ (v : View). v.sizes.participants) (c.join_rest.ensures.seat.2 ∙ out.view)))
    (IsValue out.value) IsNoValueCode vacant take.0 c.args.seat.now.me.1 c.join_rest.new.seat.me.1 c.take-value.new.seat.me.1 refl row
    (ap (λ (s : Seat ValueFraction View). s.me.1) take.1) in
    let moved = ap (λ (s : Seat ValueFraction View). s.me.0) take.1
    ∙ view_joined b slot c.args.seat.now c.take_out-rest.new.seat c.join_rest.new.seat (
      refl,
      refl,
    ) out joined (rows_from c.args.slot c.args.seat.now c.take_out-rest.new.seat c.join_rest.new.seat (
      ap (λ (v : View). v.sizes) out.view,
      ap (λ (v : View). v.fractions.gamma) out.view,
    ) c.join_rest.ensures.row) in
    let same = ap (λ (w : View). w.sizes.participants) moved in (
      back.0 ∙ (ap (λ (s : Seat ValueFraction View). s.table_id) take.1 ∙ (joined.0 ∙ taken.0)),
      back.1 ∙ (ap (λ (s : Seat ValueFraction View). s.id) take.1 ∙ (joined.1 ∙ taken.1)),
      rest_out (gamma_of b) slot n c.take-value.new.seat.me.0.sizes.participants 0 IsNoValueCode c.args.seat.now.me.1 c.take-value.new.seat.me.1
          c.give_back.new.seat.me.1 same empty back.2.3,
      (
        rests_again slot 0 (forgetting slot v) c.give_back.new.seat.me.0 r.ready.rests (back.2.2 ∙ ap giving (back.2.1.0 ∙ ap (given_back slot 0) moved)),
        sym (ap (items_at slot) moved) ∙ back.2.1.1,
      ),
    )

pub returns-clause-fits : goal.returns-clause-fits
returns-clause-fits g c = let s = c.requires.values in subst (λ (t : TableId × ℕ × ℕ). AreOf (home_of_slots t.0 t.1 t.2) (g.T.Item.holds c.take-value.result))
    (λ d. (s.table d, s.gamma d, s.size d)) c.take-value.ensures.fits

pub returns-clause-lone : goal.returns-clause-lone
returns-clause-lone g c = λ one. let b = (facts_at c.args.seat.now) in let n : ℕ = places_of b in let r = c.requires in
    let out = c.take_out-rest.ensures.taken.2 in
    let row = row_joined b c.args.slot c.args.seat.now c.take_out-rest.new.seat c.join_rest.new.seat (refl, refl) out c.join_rest.ensures.seat
    (rows_from c.args.slot c.args.seat.now c.take_out-rest.new.seat c.join_rest.new.seat (
      ap (λ (v : View). v.sizes) out.view,
      ap (λ (v : View). v.fractions.gamma) out.view,
    ) c.join_rest.ensures.row) in let value = c.take-value.ensures.value in
    let same : showing g.row.T c.take-value.result ≡ out.value = shown_out (gamma_of b) c.args.slot n (c.places-count.result + 1)
    (ap (λ (k : ℕ). k + 1) (c.places-count.ensures.places ∙ ap (λ (v : View). v.sizes.participants) (c.join_rest.ensures.seat.2
    ∙ out.view))) out.value (showing g.row.T c.take-value.result) c.args.values.now.gamma value.0
    c.args.seat.now.me.1 c.join_rest.new.seat.me.1 row value.1 in
    let filled = out.filled one in (filled.0, subst (λ (x : Gv). IsNewest c.args.slot filled.0 x c.args.seat.now.me.0) (sym same) filled.1)

use Rattle.sdd_domain_invariant.specs.Fractions.FractionsAtHome.{spare}
use Rattle.sdd_shared_values.specs.ValueFractions.{FractionContent}
use Rattle.sdd_atomics.specs.SeatAtTable.{facts_at}
use Rattle.std.proofs.Common.{◌≡◌, ℕ, ◌+◌, refl, sym, ap, subst, arith, ◌∙◌}
use base.Stored.{Gv}
use Rattle.atomic_table.specs.declared.shared.Seat.{Seat}
use Rattle.atomic_table.specs.Seated.{TableId}
use Rattle.sdd_shared_values.specs.declared.value_fraction.ValueFraction.{ValueFraction}
use Rattle.sdd_shared_values.specs.SharedValues.{IsValueCode, IsNoValueCode, vacant, showing, content}
use Rattle.sdd_rights.specs.declared.views.View.{View}
use Rattle.sdd_domain_invariant.specs.Fractions.FractionSteps.{IsValue, IsNewest, CarriesAll}
use Rattle.sdd_world_model.specs.OwnerOrCell.{AreOf}
use Rattle.sdd_atomics.specs.TableFacts.{gamma_of, places_of}
use Rattle.sdd_domain_steps.specs.SpaceIds.{home_of_slots}
use Rattle.sdd_domain_steps.proofs.HeldSlots.{row_known}
use Rattle.sdd_domain_steps.proofs.MovedValues.{may_move, all_full, row_after, shown_out}
use Rattle.sdd_domain_steps.proofs.TakenValues.{rows_from}
use Rattle.sdd_domain_steps.proofs.collectors.private_items.take_claimed.Goals as goal

pub join_rest-requires-clause-rest : goal.join_rest-requires-clause-rest
join_rest-requires-clause-rest g c = let l : FractionContent = c.take_private-rest.result.content in
    subst (λ (v : View). l ≡ content v.fractions.gamma c.args.slot l.lifetime l.shown (spare v.sizes.participants))
    (sym c.take_private-rest.ensures.taken.2.view) c.take_private-rest.ensures.deposit

pub join_rest-requires-clause-row : goal.join_rest-requires-clause-row
join_rest-requires-clause-row g c = let out = c.take_private-rest.ensures.taken.2 in (
  out.value,
  c.args.seat.now.me.1,
  subst (λ (v : View). CarriesAll v.fractions.gamma c.args.slot v.sizes.participants (spare v.sizes.participants) (IsValue out.value) c.args.seat.now.me.1
      c.take_private-rest.new.seat.me.1) (sym out.view) out.fractions,
)

pub take-requires-clause-whole : goal.take-requires-clause-whole
take-requires-clause-whole g c = let b = (facts_at c.args.seat.now) in let s = c.args.seat.now in let out = c.take_private-rest.ensures.taken.2 in
    let few = c.places-count.ensures.few in
    let row = (rows_from c.args.slot s c.take_private-rest.new.seat c.join_rest.new.seat (
      ap (λ (v : View). v.sizes) out.view,
      ap (λ (v : View). v.fractions.gamma) out.view,
    ) c.join_rest.ensures.row) out.value s.me.1
    (row_known b c.args.slot s c.take_private-rest.new.seat.me.1 (refl, refl) (IsValue out.value) out.fractions) in
    may_move (gamma_of b) c.args.slot (places_of b) (c.places-count.result + 1) (ap (λ (k : ℕ). k + 1) (c.places-count.ensures.places
    ∙ ap (λ (v : View). v.sizes.participants) (c.join_rest.ensures.seat.2 ∙ out.view))) IsValueCode
    c.args.values.now.gamma c.requires.values.gamma (omega (
      arith,
      c.places-count.ensures.places
          ∙ ap (λ (v : View). v.sizes.participants) (c.join_rest.ensures.seat.2 ∙ out.view),
    )) s.me.1 c.join_rest.new.seat.me.1
    (all_full (gamma_of b) c.args.slot (places_of b) out.value s.me.1 c.join_rest.new.seat.me.1 row)

pub returns-clause-row : goal.returns-clause-row
returns-clause-row g c = let b = (facts_at c.args.seat.now) in let s = c.args.seat.now in let out = c.take_private-rest.ensures.taken.2 in
    let take = c.take.ensures.seat in
    let row = (rows_from c.args.slot s c.take_private-rest.new.seat c.join_rest.new.seat (
      ap (λ (v : View). v.sizes) out.view,
      ap (λ (v : View). v.fractions.gamma) out.view,
    ) c.join_rest.ensures.row) out.value s.me.1
    (row_known b c.args.slot s c.take_private-rest.new.seat.me.1 (refl, refl) (IsValue out.value) out.fractions) in
    row_after (gamma_of b) c.args.slot (places_of b) (c.places-count.result + 1) (ap (λ (k : ℕ). k + 1) (c.places-count.ensures.places
    ∙ ap (λ (v : View). v.sizes.participants) (c.join_rest.ensures.seat.2 ∙ out.view)))
    (IsValue out.value) IsNoValueCode vacant take.0 s.me.1 c.join_rest.new.seat.me.1 c.take.new.seat.me.1 refl row
    (ap (λ (q : Seat ValueFraction View). q.me.1) take.1)

pub returns-clause-fits : goal.returns-clause-fits
returns-clause-fits g c = let h = c.requires.values in subst (λ (t : TableId × ℕ × ℕ). AreOf (home_of_slots t.0 t.1 t.2) (g.T.Item.holds c.take.result))
    (λ d. (h.table d, h.gamma d, h.size d)) c.take.ensures.fits

pub returns-clause-lone : goal.returns-clause-lone
returns-clause-lone g c = λ one. let b = (facts_at c.args.seat.now) in let s = c.args.seat.now in let out = c.take_private-rest.ensures.taken.2 in
    let value = c.take.ensures.value in
    let row = (rows_from c.args.slot s c.take_private-rest.new.seat c.join_rest.new.seat (
      ap (λ (v : View). v.sizes) out.view,
      ap (λ (v : View). v.fractions.gamma) out.view,
    ) c.join_rest.ensures.row) out.value s.me.1
    (row_known b c.args.slot s c.take_private-rest.new.seat.me.1 (refl, refl) (IsValue out.value) out.fractions) in
    let same : showing g.row.T c.take.result ≡ out.value = shown_out (gamma_of b) c.args.slot (places_of b) (c.places-count.result + 1)
    (ap (λ (k : ℕ). k + 1) (c.places-count.ensures.places ∙ ap (λ (v : View). v.sizes.participants) (c.join_rest.ensures.seat.2
    ∙ out.view))) out.value (showing g.row.T c.take.result) c.args.values.now.gamma value.0
    s.me.1 c.join_rest.new.seat.me.1 row value.1 in
    let filled = out.filled one in (filled.0, subst (λ (x : Gv). IsNewest c.args.slot filled.0 x s.me.0) (sym same) filled.1)

use Rattle.sdd_atomics.specs.SeatAtTable.{facts_at}
use Rattle.std.proofs.Common.{◌≡◌, ℕ, sym, ap, ◌∙◌, subst}
use Rattle.atomic_table.specs.declared.shared.Seat.{Seat}
use Rattle.sdd_shared_values.specs.declared.value_fraction.ValueFraction.{ValueFraction}
use Rattle.sdd_shared_values.specs.SharedValues.{IsNoValueCode}
use Rattle.sdd_rights.specs.declared.views.View.{View}
use Rattle.sdd_domain_invariant.specs.Codes.{emptying_word, private_word}
use Rattle.sdd_domain_invariant.specs.Collectors.CollectorWordSteps.{empties_now}
use Rattle.sdd_domain_invariant.specs.Slots.SlotSteps.{Knew}
use Rattle.sdd_domain_invariant.specs.Fractions.FractionSteps.{SeatState, CarriesAll}
use Rattle.sdd_domain_steps.specs.PrivateItems.{EmptiesAnothers}
use Rattle.sdd_domain_steps.proofs.PrivateItems.{another_emptied, another_left}
use Rattle.sdd_domain_steps.proofs.collectors.private_items.empty_anothers.Goals as goal
use Rattle.sdd_domain_steps.proofs.collectors.private_items.empty_anothers.Goals.{then-finish_emptying-eq-LEFT, else-finish_emptying-eq-LEFT}

pub finish_emptying-requires-clause-row : goal.finish_emptying-requires-clause-row
finish_emptying-requires-clause-row g c = let t = c.claim_private.new.seat in let take = c.take_claimed-value in (
  t.me.1,
  subst (λ (v : View). CarriesAll v.fractions.gamma c.args.slot v.sizes.participants 0 IsNoValueCode t.me.1 take.new.seat.me.1) (sym take.ensures.view)
      take.ensures.row,
)

pub give_empty_back-requires-clause-row : goal.give_empty_back-requires-clause-row
give_empty_back-requires-clause-row g c = let t = c.claim_private.new.seat in let take = c.take_claimed-value in (
  t.me.1,
  subst (λ (m : SeatState). CarriesAll m.0.fractions.gamma c.args.slot m.0.sizes.participants 0 IsNoValueCode t.me.1 m.1)
      (sym (c.finish_emptying.ensures.2.1 c.if-finish_emptying-eq-LEFT.true))
      (subst (λ (v : View). CarriesAll v.fractions.gamma c.args.slot v.sizes.participants 0 IsNoValueCode t.me.1 take.new.seat.me.1)
      (sym take.ensures.view) take.ensures.row),
)

pub returns-clause-emptied : goal.returns-clause-emptied
returns-clause-emptied g c = let r = c.requires in let s = c.args.seat.now in let l = c.look.new.seat in let t = c.claim_private.new.seat in
    let slot : ℕ = c.args.slot in let collector : ℕ = c.args.collector in
    let look = c.look.ensures in let claim = c.claim_private.ensures in let take = c.take_claimed-value.ensures in
    let hit : c.claim_private.result ≡ private_word collector = c.if-claim_private-word.false ∙ c.private_word-word.ensures in
    let claimed : t.me.0 ≡ empties_now slot emptying_word s.me.0 = claim.2.0.0 hit ∙ ap (empties_now slot emptying_word) look.3.0 in
    let same : t.me.1 ≡ s.me.1 = claim.2.1 ∙ look.2 in
    let knew : Knew slot s.me.0 (private_word collector) = subst (Knew slot s.me.0) hit
    (subst (λ (v : View). Knew slot v c.claim_private.result) look.3.0 claim.2.0.2) in
    let Done : Seat ValueFraction View → Type 0 = EmptiesAnothers collector slot s in elim c.if-finish_emptying-eq-LEFT.branch [
      | then-finish_emptying-eq-LEFT w ↦ subst Done (sym w.seat-is)
          (another_left (facts_at t) slot s t c.take_claimed-value.new.seat (
            sym (ap (λ (v : View). v.sizes) claimed),
            sym (ap (λ (v : View). v.fractions.gamma) claimed),
          ) r.ready.rests r.idle.0 claimed same take.home take.view take.row
          (claim.0 ∙ look.0) (claim.1 ∙ look.1) collector c.finish_emptying.result c.finish_emptying.new.seat knew c.finish_emptying.ensures
          w.give_empty_back.new.seat r.idle.1 w.if-finish_emptying-eq-LEFT.true w.give_empty_back.ensures)
      | else-finish_emptying-eq-LEFT w ↦ subst Done (sym w.seat-is)
          (another_emptied (facts_at t) slot s t c.take_claimed-value.new.seat (
            sym (ap (λ (v : View). v.sizes) claimed),
            sym (ap (λ (v : View). v.fractions.gamma) claimed),
          ) r.ready.rests r.idle.0 claimed same take.home take.view take.row
          (claim.0 ∙ look.0) (claim.1 ∙ look.1) collector c.finish_emptying.result c.finish_emptying.new.seat knew c.finish_emptying.ensures
          w.if-finish_emptying-eq-LEFT.false)
    ]

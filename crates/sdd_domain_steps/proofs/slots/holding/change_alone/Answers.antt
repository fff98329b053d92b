use Rattle.sdd_atomics.specs.ReadFractions.{IsReadFractionOf}
use Rattle.sdd_domain_steps.specs.SpaceIds.{home_of_slots}
use Rattle.sdd_world_model.specs.OwnerOrCell.{AreOf}
use Rattle.sdd_atomics.proofs.Sitting.{viewed_facts}
use Rattle.sdd_atomics.specs.SeatAtTable.{facts_at}
use Rattle.std.proofs.Common.{ℕ, [], ◌∷◌, refl, ap, ◌∙◌, subst, sym, drop, suc}
use Rattle.std.specs.Fn.{FnOnceReturnsAtMut}
use base.Stored.{Gv}
use Rattle.sdd_shared_values.specs.SharedValues.{IsNoValueCode, showing}
use Rattle.sdd_rights.specs.declared.views.View.{View}
use Rattle.sdd_rights.specs.contracts.views.View.{the_row}
use Rattle.sdd_domain_invariant.specs.Fractions.FractionSteps.{departing, drawing, parting, resting, telling, CarriesAll}
use Rattle.sdd_atomics.specs.TableFacts.{gamma_of, places_of, TableFacts}
use Rattle.sdd_domain_steps.specs.InPlace.{let_go_of}
use Rattle.sdd_domain_steps.proofs.HeldSlots.{changed_parts, changed_leaves}
use Rattle.sdd_domain_steps.proofs.MovedValues.{rest_out}
use Rattle.sdd_domain_steps.proofs.slots.holding.change_alone.Goals as goal

pub move_in-read_fraction-requires-clause-fits : goal.move_in-read_fraction-requires-clause-fits
move_in-read_fraction-requires-clause-fits g c =
    subst (λ (q : TableFacts). AreOf (home_of_slots q.id q.gamma q.sizes.slots) (g.T.Item.holds c.f-answer.new.arg2))
    (sym (viewed_facts c.args.seat.now c.take_alone-value.new.seat _ c.take_alone-value.ensures.home.0 c.take_alone-value.ensures.view (
      refl,
      refl,
    ))) (c.requires.held_on c.take_alone-value.result c.f-answer.new.arg2 c.f-answer.result
    (record { shown = _; shows = refl; left = _; met = c.f-answer.ensures; leaves = refl }) c.take_alone-value.ensures.fits)

pub move_in-read_fraction-requires-clause-row : goal.move_in-read_fraction-requires-clause-row
move_in-read_fraction-requires-clause-row g c = let took = c.take_alone-value in (
  c.args.seat.now.me.1,
  subst (λ (v : View). CarriesAll v.fractions.gamma c.args.slot v.sizes.participants 0 IsNoValueCode c.args.seat.now.me.1 took.new.seat.me.1)
      (sym took.ensures.view) took.ensures.row,
)

pub returns-clause-home : goal.returns-clause-home
returns-clause-home g c = let b = (facts_at c.args.seat.now) in let took = c.take_alone-value in let moved = c.move_in-read_fraction.ensures in
    let gone = c.let_go.ensures in
    let cut = c.cut.ensures.participant in (
      cut.0 ∙ (gone.0 ∙ (moved.home.0 ∙ took.ensures.home.0)),
      cut.1 ∙ (gone.1 ∙ (moved.home.1 ∙ took.ensures.home.1)),
      rest_out (gamma_of b) c.args.slot (places_of b) (places_of b) 0 IsNoValueCode c.args.seat.now.me.1 took.new.seat.me.1
          c.cut.new.seat.me.1 refl took.ensures.row (cut.2 ∙ (gone.2 ∙ (moved.given
          ∙ ap (λ (v : View). drop (suc v.sizes.participants) took.new.seat.me.1) took.ensures.view))),
    )

pub returns-clause-changed : goal.returns-clause-changed
returns-clause-changed g c = let b = (facts_at c.args.seat.now) in let slot : ℕ = c.args.slot in
    let took = c.take_alone-value.ensures in let moved = c.move_in-read_fraction.ensures in let gone = c.let_go.ensures in
    let now : Gv = showing g.row.T c.f-answer.new.arg2 in let v : View = c.args.seat.now.me.0 in
    let then : FnOnceReturnsAtMut {F = g.row.F.Denot} {T = g.row.T.Denot} {R = g.row.R.Denot} g.F.FnOnce c.args.f c.take_alone-value.result c.f-answer.result
    c.f-answer.new.arg2 = record { shown = _; shows = refl; left = _; met = c.f-answer.ensures; leaves = refl } in
    let view = gone.3 ∙ (ap (let_go_of c.args.shared slot) moved.view
    ∙ ap (λ (w : View). let_go_of c.args.shared slot (resting (telling slot c.args.shared now (drawing slot w)))) took.view) in (
      c.take_alone-value.result,
      c.f-answer.new.arg2,
      took.value,
      then,
      c.cut.ensures.participant.3 ∙ (ap parting view ∙ changed_parts slot c.args.shared now v c.requires.held.1),
      c.cut.ensures.owner.0 ∙ (gone.0 ∙ (moved.home.0 ∙ took.home.0)),
      c.cut.ensures.owner.1 ∙ ap (λ (w : View). the_row.coded.code w ∷ [])
          (ap departing view ∙ changed_leaves slot c.args.shared now v c.requires.held.1),
      subst (λ (v : View). IsReadFractionOf v.fractions.gamma slot now c.move_in-read_fraction.result) took.view moved.read_fraction,
      c.requires.held_on c.take_alone-value.result c.f-answer.new.arg2 c.f-answer.result then took.fits,
      c.fill.ensures,
    )

use Rattle.sdd_domain_invariant.specs.Fractions.FractionSteps.{CarriesAll}
use Rattle.sdd_atomics.specs.SeatAtTable.{facts_at}
use Rattle.std.proofs.Common.{ap, ◌∙◌, subst, sym}
use Rattle.sdd_shared_values.specs.SharedValues.{IsNoValueCode}
use Rattle.sdd_rights.specs.declared.views.View.{View}
use Rattle.sdd_atomics.specs.TableFacts.{gamma_of, places_of}
use Rattle.sdd_domain_steps.proofs.MovedValues.{rest_out}
use Rattle.sdd_domain_steps.proofs.slots.holding.drop_alone.Goals as goal

pub returns-clause-home : goal.returns-clause-home
returns-clause-home g c = let b = (facts_at c.args.seat.now) in let took = c.take_alone-value in let gone = c.discard.ensures in (
  gone.0 ∙ took.ensures.home.0,
  gone.1 ∙ took.ensures.home.1,
  rest_out (gamma_of b) c.args.slot (places_of b) took.new.seat.me.0.sizes.participants 0 IsNoValueCode c.args.seat.now.me.1 took.new.seat.me.1
      c.discard.new.seat.me.1 (ap (λ (v : View). v.sizes.participants) took.ensures.view)
      took.ensures.row gone.2.1,
)

pub discard-requires-clause-row : goal.discard-requires-clause-row
discard-requires-clause-row g c = let took = c.take_alone-value in (
  c.args.seat.now.me.1,
  subst (λ (v : View). CarriesAll v.fractions.gamma c.args.slot v.sizes.participants 0 IsNoValueCode c.args.seat.now.me.1 took.new.seat.me.1)
      (sym took.ensures.view) took.ensures.row,
)

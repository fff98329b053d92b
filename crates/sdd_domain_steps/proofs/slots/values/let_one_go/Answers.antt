use Rattle.std.proofs.Common.{eqb, Bool, sym, ◌∙◌, subst}
use Rattle.sdd_domain_invariant.specs.Slots.Records.{IsIn}
use Rattle.sdd_domain_steps.specs.Values.{LetsOneGo}
use Rattle.sdd_domain_steps.proofs.ReleasedOwner.{one_left, lets_one_go}
use Rattle.sdd_domain_steps.proofs.slots.values.let_one_go.Goals as goal

pub returns-then-shared-clause-went : goal.returns-then-shared-clause-went
returns-then-shared-clause-went c = let u = c.enter_unit.ensures in let e = c.let_go.ensures in (
  e.0 ∙ u.0,
  e.1 ∙ u.1,
  subst (λ (b : Bool). LetsOneGo c.args.slot b (eqb c.let_go.result one_left) c.args.seat.now.me c.let_go.new.seat.me) (sym c.if-shared.true)
      (lets_one_go c.args.slot c.let_go.result c.args.seat.now.me c.enter_unit.new.seat.me c.let_go.new.seat.me u.2 e.2),
)

pub enter_unit-requires-clause-told : goal.enter_unit-requires-clause-told
enter_unit-requires-clause-told c = subst (IsIn c.args.seat.now.me.0.fractions.owns c.args.slot) (sym c.unit_of-unit.ensures.shown) c.requires.shows

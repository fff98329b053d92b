use Rattle.sdd_domain_steps.specs.Cells.{AreLoose}
use Rattle.sdd_atomics.specs.SeatAtTable.{facts_at}
use Rattle.std.proofs.Common.{Bool, subst, refl, rules}
use Rattle.sdd_rights.specs.declared.views.View.{View}
use Rattle.sdd_domain_invariant.specs.Slots.FilledInvariant.{HasRecord}
use Rattle.sdd_domain_steps.proofs.CellValues.{new_kind}
use Rattle.sdd_domain_steps.proofs.cells.claims.fill.Goals as goal

pub fill_bare_cell-requires-clause-kind : goal.fill_bare_cell-requires-clause-kind
fill_bare_cell-requires-clause-kind c = λ r has. let shared : Bool = c.args.shared in
    let own : AreLoose (facts_at c.take_in_right.new.seat) shared c.args.new = search rules in
    let took = c.take_up.ensures shared own in
    new_kind (facts_at c.args.seat.now) c.args.seat.now.me.0 refl shared c.args.new r (subst (λ (v : View). HasRecord v.fractions.owns r) took.view has)

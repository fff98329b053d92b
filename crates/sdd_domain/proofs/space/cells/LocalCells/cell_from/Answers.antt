use Rattle.std.proofs.Common.{sym, ◌∙◌, subst}
use Rattle.sdd_shared_values.specs.SharedValues.{showing}
use Rattle.sdd_domain_steps.specs.Local.{LocalModel}
use Rattle.sdd_domain_core.specs.Sound.{IsSound}
use Rattle.sdd_domain.proofs.Givers.{same_giver}
use Rattle.sdd_domain.proofs.CellAnswers.{claimed_exact, claims_step}
use Rattle.sdd_domain.proofs.Steps.{step_leaves}
use Rattle.sdd_domain.proofs.space.cells.LocalCells.cell_from.Goals as goal

pub invariant_of-self : goal.invariant_of-self
invariant_of-self g c = let v : LocalModel _ _ = (c.self-inside.view_is 0).giver in let inner = same_giver c.self-inside.view_is in let did = c.cell_from in
    (claims_step v did.new.self c.args.held c.args.tag (showing g.row.T) g.T.Item.holds did.result did.ensures.claimed).sound c.self-inside.invariant
    (subst (IsSound g.T.Item.holds) (sym inner) c.self.invariant)

pub returns-clause-undisturbed : goal.returns-clause-undisturbed
returns-clause-undisturbed g c = let v : LocalModel _ _ = (c.self-inside.view_is 0).giver in let inner = same_giver c.self-inside.view_is in
    let did = c.cell_from in
    step_leaves (showing g.row.T) g.T.Item.holds v (record { member = did.new.self; entries = v.entries }) c.args.self.now (inner ∙ c.self.view_is)
    (claims_step v did.new.self c.args.held c.args.tag (showing g.row.T) g.T.Item.holds did.result did.ensures.claimed) c.self-inside.invariant

pub returns-clause-exact : goal.returns-clause-exact
returns-clause-exact g c = λ exact. let v : LocalModel _ _ = (c.self-inside.view_is 0).giver in let inner = same_giver c.self-inside.view_is in
    claimed_exact v c.cell_from.new.self c.args.held c.args.tag c.args.self.now (inner ∙ c.self.view_is) c.cell_from.result
    c.cell_from.ensures.claimed c.cell_from.ensures.back c.self-inside.invariant exact

use Rattle.std.proofs.Common.{sym, ◌∙◌, subst}
use Rattle.sdd_shared_values.specs.SharedValues.{showing}
use Rattle.sdd_rights.specs.Right.{number_of}
use Rattle.sdd_domain_steps.specs.Local.{LocalModel}
use Rattle.sdd_domain_core.specs.Sound.{IsSound}
use Rattle.sdd_domain.proofs.Givers.{same_giver}
use Rattle.sdd_domain.proofs.CellShared.{shared_exact, shared_step, shared_undisturbed}
use Rattle.sdd_domain.proofs.space.cells.LocalCells.share_held.Goals as goal

pub invariant_of-self-inside : goal.invariant_of-self-inside
invariant_of-self-inside g c =
    let v : LocalModel g.row.T.Denot g.row.J.Denot = (c.self-inside.view_is 0).giver in let did = c.share_held in
    (shared_step v did.new.self (number_of c.args.cell.now) (showing g.row.T) g.T.Item.holds did.result did.ensures.copied).tied c.self-inside.invariant

pub invariant_of-self : goal.invariant_of-self
invariant_of-self g c = let v : LocalModel _ _ = (c.self-inside.view_is 0).giver in let inner = same_giver c.self-inside.view_is in
    let did = c.share_held in
    (shared_step v did.new.self (number_of c.args.cell.now) (showing g.row.T) g.T.Item.holds did.result did.ensures.copied).sound
    c.self-inside.invariant (subst (IsSound g.T.Item.holds) (sym inner) c.self.invariant)

pub returns-clause-undisturbed : goal.returns-clause-undisturbed
returns-clause-undisturbed g c = let v : LocalModel _ _ = (c.self-inside.view_is 0).giver in let inner = same_giver c.self-inside.view_is in
    let did = c.share_held in
    shared_undisturbed v did.new.self (number_of c.args.cell.now) (showing g.row.T) g.T.Item.holds c.args.self.now (inner ∙ c.self.view_is)
    c.self-inside.invariant did.result did.ensures.copied

pub returns-clause-exact : goal.returns-clause-exact
returns-clause-exact g c = λ exact. let v : LocalModel _ _ = (c.self-inside.view_is 0).giver in let inner = same_giver c.self-inside.view_is in
    let did = c.share_held in
    shared_exact v did.new.self (number_of c.args.cell.now) (showing g.row.T) g.T.Item.holds c.args.self.now (inner ∙ c.self.view_is)
    c.self-inside.invariant did.ensures.inside did.ensures.full did.result did.ensures.copied exact

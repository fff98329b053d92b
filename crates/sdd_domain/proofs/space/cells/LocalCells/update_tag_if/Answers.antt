use Rattle.std.proofs.Common.{Bool, sym, ◌∙◌, subst}
use Rattle.sdd_shared_values.specs.SharedValues.{showing}
use Rattle.sdd_rights.specs.Right.{number_of}
use Rattle.sdd_space.specs.declared.raw_ptr.RawPtr.{RawPtr}
use Rattle.sdd_domain_steps.specs.Local.{LocalModel}
use Rattle.sdd_domain_core.specs.Sound.{IsSound}
use Rattle.sdd_domain.proofs.Givers.{same_giver}
use Rattle.sdd_domain.proofs.CellAnswers.{retags_exact, retags_step}
use Rattle.sdd_domain.proofs.Steps.{step_leaves}
use Rattle.sdd_domain.proofs.space.cells.LocalCells.update_tag_if.Goals as goal

pub invariant_of-self : goal.invariant_of-self
invariant_of-self g c = let v : LocalModel _ _ = (c.self-inside.view_is 0).giver in let inner = same_giver c.self-inside.view_is in
    let did = c.update_tag_if in
    (retags_step v did.new.self (number_of c.args.cell.now) c.args.tag (showing g.row.T) g.T.Item.holds did.result did.ensures.changed).sound
    c.self-inside.invariant (subst (IsSound g.T.Item.holds) (sym inner) c.self.invariant)

pub returns-clause-undisturbed : goal.returns-clause-undisturbed
returns-clause-undisturbed g c = let v : LocalModel _ _ = (c.self-inside.view_is 0).giver in let inner = same_giver c.self-inside.view_is in
    let did = c.update_tag_if in
    step_leaves (showing g.row.T) g.T.Item.holds v (record { member = did.new.self; entries = v.entries }) c.args.self.now (inner ∙ c.self.view_is)
    (retags_step v did.new.self (number_of c.args.cell.now) c.args.tag (showing g.row.T) g.T.Item.holds did.result did.ensures.changed) c.self-inside.invariant

pub returns-clause-exact : goal.returns-clause-exact
returns-clause-exact g c = λ exact. let v : LocalModel _ _ = (c.self-inside.view_is 0).giver in let inner = same_giver c.self-inside.view_is in
    let did = c.update_tag_if in
    retags_exact v did.new.self (number_of c.args.cell.now) c.args.tag
    (λ (ptr : RawPtr g.row.T.Denot) (changed : Bool). g.F.FnMut.post c.args.condition (ptr, tt) changed)
    did.result did.ensures.changed did.ensures.once c.self-inside.invariant c.args.self.now (inner ∙ c.self.view_is) exact

use Rattle.std.proofs.Common.{sym, ◌∙◌, subst}
use Rattle.sdd_shared_values.specs.SharedValues.{showing}
use Rattle.sdd_domain_steps.specs.Local.{LocalModel}
use Rattle.sdd_domain_core.specs.Sound.{IsSound}
use Rattle.sdd_domain.proofs.Givers.{same_giver}
use Rattle.sdd_domain.proofs.RawCellAnswers.{made_answer, made_leaves, made_sound}
use Rattle.sdd_domain.proofs.space.raw_cells.LocalRawCells.new_raw_cell.Goals as goal

pub invariant_of-self : goal.invariant_of-self
invariant_of-self g c = let v : LocalModel _ _ = (c.self-inside.view_is 0).giver in let inner = same_giver c.self-inside.view_is in
    made_sound v c.new_raw_cell.new.self c.args.pointer c.new_raw_cell.result
    c.new_raw_cell.ensures.made g.T.Item.holds (subst (IsSound g.T.Item.holds) (sym inner) c.self.invariant)

pub returns-clause-undisturbed : goal.returns-clause-undisturbed
returns-clause-undisturbed g c = let v : LocalModel _ _ = (c.self-inside.view_is 0).giver in let inner = same_giver c.self-inside.view_is in
    made_leaves v c.new_raw_cell.new.self c.args.pointer c.new_raw_cell.result c.new_raw_cell.ensures.made c.args.self.now (inner ∙
    c.self.view_is) (showing g.row.T) g.T.Item.holds

pub returns-clause-exact : goal.returns-clause-exact
returns-clause-exact g c = λ exact. let v : LocalModel _ _ = (c.self-inside.view_is 0).giver in let inner = same_giver c.self-inside.view_is in
    made_answer v c.new_raw_cell.new.self c.args.pointer c.new_raw_cell.result c.new_raw_cell.ensures.made c.self-inside.invariant c.args.self.now
    (inner ∙ c.self.view_is) exact

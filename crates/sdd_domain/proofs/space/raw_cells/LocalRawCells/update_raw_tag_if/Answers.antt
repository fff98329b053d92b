use Rattle.std.proofs.Common.{sym, ◌∙◌, subst}
use Rattle.sdd_rights.specs.Right.{raw_number_of}
use Rattle.sdd_shared_values.specs.SharedValues.{showing}
use Rattle.sdd_domain_steps.specs.Local.{LocalModel}
use Rattle.sdd_domain_core.specs.Sound.{IsSound}
use Rattle.sdd_domain.proofs.Givers.{same_giver}
use Rattle.sdd_domain.proofs.RawCellAnswers.{may_sound, may_undisturbed, retagged_may, retagged_exact, retagged_back}
use Rattle.sdd_domain.proofs.space.raw_cells.LocalRawCells.update_raw_tag_if.Goals as goal

pub invariant_of-self : goal.invariant_of-self
invariant_of-self g c = let v : LocalModel _ _ = (c.self-inside.view_is 0).giver in let inner = same_giver c.self-inside.view_is in
    let cell = raw_number_of c.args.cell.now in
    may_sound v c.update_raw_tag_if.new.self cell
    (retagged_may v c.update_raw_tag_if.new.self cell c.args.tag c.update_raw_tag_if.result c.update_raw_tag_if.ensures.changed)
    g.T.Item.holds (subst (IsSound g.T.Item.holds) (sym inner) c.self.invariant)

pub returns-clause-undisturbed : goal.returns-clause-undisturbed
returns-clause-undisturbed g c = let v : LocalModel _ _ = (c.self-inside.view_is 0).giver in let inner = same_giver c.self-inside.view_is in
    let cell = raw_number_of c.args.cell.now in
    may_undisturbed v c.update_raw_tag_if.new.self cell
    (retagged_may v c.update_raw_tag_if.new.self cell c.args.tag c.update_raw_tag_if.result c.update_raw_tag_if.ensures.changed)
    c.args.self.now (inner ∙ c.self.view_is) (showing g.row.T) g.T.Item.holds

pub returns-clause-back : goal.returns-clause-back
returns-clause-back g c = let v : LocalModel _ _ = (c.self-inside.view_is 0).giver in let inner = same_giver c.self-inside.view_is in
    let cell = raw_number_of c.args.cell.now in
    retagged_back v c.update_raw_tag_if.new.self cell c.args.tag c.update_raw_tag_if.result c.update_raw_tag_if.ensures.changed
    c.args.self.now (inner ∙ c.self.view_is)

pub returns-clause-exact : goal.returns-clause-exact
returns-clause-exact g c = λ exact. let v : LocalModel _ _ = (c.self-inside.view_is 0).giver in let inner = same_giver c.self-inside.view_is in
    let cell = raw_number_of c.args.cell.now in
    retagged_exact v c.update_raw_tag_if.new.self cell c.args.tag (λ ptr changed. g.F.FnMut.post c.args.condition (ptr, tt) changed)
    c.update_raw_tag_if.result c.update_raw_tag_if.ensures.changed c.update_raw_tag_if.ensures.once
    c.self-inside.invariant c.args.self.now (inner ∙ c.self.view_is) exact

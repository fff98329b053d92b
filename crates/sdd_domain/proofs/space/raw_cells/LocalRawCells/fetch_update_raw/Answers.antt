use Rattle.std.proofs.Common.{sym, ◌∙◌, subst}
use Rattle.sdd_rights.specs.Right.{raw_number_of}
use Rattle.sdd_shared_values.specs.SharedValues.{showing}
use Rattle.sdd_domain_steps.specs.Local.{LocalModel}
use Rattle.sdd_domain_core.specs.Sound.{IsSound}
use Rattle.sdd_domain.proofs.Givers.{same_giver}
use Rattle.sdd_domain.proofs.RawCellAnswers.{may_sound, may_undisturbed, updated_may, updated_exact, updated_back}
use Rattle.sdd_domain.proofs.space.raw_cells.LocalRawCells.fetch_update_raw.Goals as goal

pub invariant_of-self : goal.invariant_of-self
invariant_of-self g c = let v : LocalModel _ _ = (c.self-inside.view_is 0).giver in let inner = same_giver c.self-inside.view_is in
    let cell = raw_number_of c.args.cell.now in
    may_sound v c.fetch_update_raw.new.self cell (updated_may v c.fetch_update_raw.new.self cell c.fetch_update_raw.result c.fetch_update_raw.ensures.updated)
    g.T.Item.holds (subst (IsSound g.T.Item.holds) (sym inner) c.self.invariant)

pub returns-clause-undisturbed : goal.returns-clause-undisturbed
returns-clause-undisturbed g c = let v : LocalModel _ _ = (c.self-inside.view_is 0).giver in let inner = same_giver c.self-inside.view_is in
    let cell = raw_number_of c.args.cell.now in
    may_undisturbed v c.fetch_update_raw.new.self cell
    (updated_may v c.fetch_update_raw.new.self cell c.fetch_update_raw.result c.fetch_update_raw.ensures.updated)
    c.args.self.now (inner ∙ c.self.view_is) (showing g.row.T) g.T.Item.holds

pub returns-clause-back : goal.returns-clause-back
returns-clause-back g c = let v : LocalModel _ _ = (c.self-inside.view_is 0).giver in let inner = same_giver c.self-inside.view_is in
    let cell = raw_number_of c.args.cell.now in
    updated_back v c.fetch_update_raw.new.self cell c.fetch_update_raw.result c.fetch_update_raw.ensures.updated c.args.self.now (inner ∙ c.self.view_is)

pub returns-clause-exact : goal.returns-clause-exact
returns-clause-exact g c = λ exact. let v : LocalModel _ _ = (c.self-inside.view_is 0).giver in let inner = same_giver c.self-inside.view_is in
    let cell = raw_number_of c.args.cell.now in
    updated_exact v c.fetch_update_raw.new.self cell (λ ptr next. g.F.FnMut.post c.args.f (ptr, tt) next) c.fetch_update_raw.result
    c.fetch_update_raw.ensures.updated c.fetch_update_raw.ensures.once
    c.self-inside.invariant c.args.self.now (inner ∙ c.self.view_is) exact

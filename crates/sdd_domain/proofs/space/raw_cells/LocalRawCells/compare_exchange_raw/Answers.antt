use Rattle.std.proofs.Common.{sym, ◌∙◌, subst}
use Rattle.sdd_rights.specs.Right.{raw_number_of}
use Rattle.sdd_shared_values.specs.SharedValues.{showing}
use Rattle.sdd_domain_steps.specs.Local.{LocalModel}
use Rattle.sdd_domain_core.specs.Sound.{IsSound}
use Rattle.sdd_domain.proofs.Givers.{same_giver}
use Rattle.sdd_domain.proofs.RawCellAnswers.{may_sound, may_undisturbed, exchanged_may, exchanged_exact}
use Rattle.sdd_domain.proofs.space.raw_cells.LocalRawCells.compare_exchange_raw.Goals as goal

pub invariant_of-self : goal.invariant_of-self
invariant_of-self g c = let v : LocalModel _ _ = (c.self-inside.view_is 0).giver in let inner = same_giver c.self-inside.view_is in
    let cell = raw_number_of c.args.cell.now in
    may_sound v c.compare_exchange_raw.new.self cell
    (exchanged_may v c.compare_exchange_raw.new.self cell c.args.current c.args.new c.compare_exchange_raw.result c.compare_exchange_raw.ensures)
    g.T.Item.holds (subst (IsSound g.T.Item.holds) (sym inner) c.self.invariant)

pub returns-clause-undisturbed : goal.returns-clause-undisturbed
returns-clause-undisturbed g c = let v : LocalModel _ _ = (c.self-inside.view_is 0).giver in let inner = same_giver c.self-inside.view_is in
    let cell = raw_number_of c.args.cell.now in
    may_undisturbed v c.compare_exchange_raw.new.self cell
    (exchanged_may v c.compare_exchange_raw.new.self cell c.args.current c.args.new c.compare_exchange_raw.result c.compare_exchange_raw.ensures)
    c.args.self.now (inner ∙ c.self.view_is) (showing g.row.T) g.T.Item.holds

pub returns-clause-exact : goal.returns-clause-exact
returns-clause-exact g c = λ exact. let v : LocalModel _ _ = (c.self-inside.view_is 0).giver in let inner = same_giver c.self-inside.view_is in
    let cell = raw_number_of c.args.cell.now in
    exchanged_exact v c.compare_exchange_raw.new.self cell c.args.current c.args.new c.compare_exchange_raw.result c.compare_exchange_raw.ensures
    c.self-inside.invariant c.args.self.now (inner ∙ c.self.view_is) exact

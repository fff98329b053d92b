use Rattle.std.proofs.Common.{sym, ◌∙◌, subst}
use Rattle.sdd_rights.specs.Right.{raw_number_of}
use Rattle.sdd_shared_values.specs.SharedValues.{showing}
use Rattle.sdd_domain_steps.specs.Local.{LocalModel}
use Rattle.sdd_domain_core.specs.Sound.{IsSound}
use Rattle.sdd_domain.proofs.Givers.{same_giver}
use Rattle.sdd_domain.proofs.RawCellAnswers.{closed_exact}
use Rattle.sdd_domain_core.proofs.CellWorld.{sound_written, written_undisturbed}
use Rattle.sdd_domain.proofs.space.raw_cells.LocalRawCells.close_raw_cell.Goals as goal

pub invariant_of-self : goal.invariant_of-self
invariant_of-self g c = let v : LocalModel _ _ = (c.self-inside.view_is 0).giver in let inner = same_giver c.self-inside.view_is in
    sound_written v (raw_number_of c.args.cell) c.free_raw_cell.result 0 c.free_raw_cell.new.self c.free_raw_cell.ensures.freed.writes g.T.Item.holds
    (subst (IsSound g.T.Item.holds) (sym inner) c.self.invariant)

pub returns-clause-undisturbed : goal.returns-clause-undisturbed
returns-clause-undisturbed g c = let v : LocalModel _ _ = (c.self-inside.view_is 0).giver in let inner = same_giver c.self-inside.view_is in
    written_undisturbed v (raw_number_of c.args.cell) c.free_raw_cell.result 0 c.free_raw_cell.new.self c.free_raw_cell.ensures.freed.writes c.args.self.now
    (inner ∙ c.self.view_is) (showing g.row.T) g.T.Item.holds

pub returns-clause-exact : goal.returns-clause-exact
returns-clause-exact g c = λ exact. let v : LocalModel _ _ = (c.self-inside.view_is 0).giver in let inner = same_giver c.self-inside.view_is in
    closed_exact v c.free_raw_cell.new.self (raw_number_of c.args.cell) c.free_raw_cell.result c.free_raw_cell.ensures.freed c.free_raw_cell.ensures.bare
    c.self-inside.invariant c.args.self.now (inner ∙ c.self.view_is) exact

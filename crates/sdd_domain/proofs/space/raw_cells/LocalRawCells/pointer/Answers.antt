use Rattle.std.proofs.Common.{◌∙◌}
use Rattle.sdd_rights.specs.Right.{raw_number_of}
use Rattle.sdd_domain_steps.specs.Local.{LocalModel}
use Rattle.sdd_domain.proofs.Givers.{same_giver}
use Rattle.sdd_domain.proofs.RawCellAnswers.{same_exact}
use Rattle.sdd_domain.proofs.RawCellWorld.{found_exact}
use Rattle.sdd_domain.proofs.space.raw_cells.LocalRawCells.pointer.Goals as goal

pub returns-clause-exact : goal.returns-clause-exact
returns-clause-exact g c = λ exact. let v : LocalModel _ _ = (c.self-inside.view_is 0).giver in let inner = same_giver c.self-inside.view_is in (
  found_exact v (raw_number_of c.args.cell.now) c.pointer.result c.pointer.ensures.found c.self-inside.invariant c.args.self.now (inner ∙
      c.self.view_is) exact,
  same_exact v c.pointer.new.self c.args.self.now (inner ∙ c.self.view_is) exact c.pointer.ensures.same,
)

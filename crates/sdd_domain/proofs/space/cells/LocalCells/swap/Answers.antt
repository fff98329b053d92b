use Rattle.std.proofs.Common.{ℕ, sym, ◌∙◌, subst}
use Rattle.sdd_rights.specs.Right.{number_of}
use Rattle.sdd_world_model.specs.Cells.{cell_with}
use Rattle.sdd_shared_values.specs.SharedValues.{showing}
use Rattle.sdd_domain_steps.specs.Local.{LocalModel}
use Rattle.sdd_domain_core.specs.Sound.{IsSound}
use Rattle.sdd_domain.proofs.Givers.{same_giver}
use Rattle.sdd_domain_core.proofs.CellWorld.{full_exact, sound_written, written_exact, written_undisturbed}
use Rattle.sdd_domain.proofs.Steps.{lone_begun}
use Rattle.sdd_domain.proofs.space.cells.LocalCells.swap.Goals as goal

pub invariant_of-self : goal.invariant_of-self
invariant_of-self g c = let v : LocalModel _ _ = (c.self-inside.view_is 0).giver in let inner = same_giver c.self-inside.view_is in
    let s = c.swap.ensures.swapped in
    sound_written v (number_of c.args.cell.now) s.0 s.1 c.swap.new.self s.5.writes g.T.Item.holds (subst (IsSound g.T.Item.holds) (sym inner) c.self.invariant)

pub returns-clause-undisturbed : goal.returns-clause-undisturbed
returns-clause-undisturbed g c = let v : LocalModel _ _ = (c.self-inside.view_is 0).giver in let inner = same_giver c.self-inside.view_is in
    let s = c.swap.ensures.swapped in
    written_undisturbed v (number_of c.args.cell.now) s.0 s.1 c.swap.new.self s.5.writes
    c.args.self.now (inner ∙ c.self.view_is) (showing g.row.T) g.T.Item.holds

pub returns-clause-exact : goal.returns-clause-exact
returns-clause-exact g c = λ exact. let v : LocalModel _ _ = (c.self-inside.view_is 0).giver in let inner = same_giver c.self-inside.view_is in
    let lone = lone_begun v c.args.self.now (inner ∙ c.self.view_is) exact in
    let s = c.swap.ensures.swapped in let cell : ℕ = number_of c.args.cell.now in let r = c.swap.result in (
      full_exact v cell s.0 s.1 c.swap.new.self s.5.writes c.self-inside.invariant c.args.self.now (inner ∙ c.self.view_is) exact
          (cell_with r.0 r.1) (s.5.full lone) s.4,
      written_exact v cell s.0 s.1 c.swap.new.self s.5.writes c.self-inside.invariant c.args.self.now (inner ∙ c.self.view_is) exact
          (cell_with c.args.new c.args.tag) s.2 s.3,
    )

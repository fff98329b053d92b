use Rattle.std.proofs.Common.{◌≡◌, ℕ, Some, ap, ◌∙◌, subst}
use Rattle.sdd_rights.specs.Right.{number_of}
use Rattle.sdd_domain_steps.specs.Local.{LocalModel, world_of}
use Rattle.sdd_domain.proofs.Givers.{same_giver}
use Rattle.sdd_domain_core.proofs.CellWorld.{full_cell}
use Rattle.sdd_domain.proofs.Steps.{lone_begun}
use Rattle.sdd_domain.proofs.space.cells.LocalCells.cell.Goals as goal

pub returns-clause-exact : goal.returns-clause-exact
returns-clause-exact g c = λ exact. let v : LocalModel _ _ = (c.self-inside.view_is 0).giver in let inner = same_giver c.self-inside.view_is in
    let lone = lone_begun v c.args.self.now (inner ∙ c.self.view_is) exact in
    let f = c.cell.ensures.found in let cell : ℕ = number_of c.args.cell.now in (
      subst (λ (q : LocalModel g.row.T.Denot g.row.J.Denot). Rattle.sdd_participants.specs.Slab.entry_at (world_of q).cells cell ≡ Some c.cell.result)
          (inner ∙ c.self.view_is)
          (full_cell v (c.self-inside.invariant lone) cell f.0 f.2.inside (f.2.found lone) (f.2.full lone) ∙ ap Some f.1),
      ap (λ (y : Rattle.sdd_domain_steps.specs.LocalState.LocalState g.row.J.Denot). world_of {T = g.row.T.Denot} (record { member = y; entries = v.entries }))
          c.cell.ensures.same ∙ ap world_of (inner ∙ c.self.view_is),
    )

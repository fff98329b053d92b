use Rattle.std.proofs.Common.{ℕ}
use Rattle.sdd_space.specs.Shared.{cell_of}
use Rattle.sdd_world_model.proofs.ParticipantChanges.{gives-grows, Gives-cell_closed}
use Rattle.sdd_world_core.proofs.world_core.giving.RetirementGiver.atomic_shared.Goals as goal

pub returns-clause-own : goal.returns-clause-own
returns-clause-own g c =
    let w = c.args.self.now.core.now.world in
    let p : ℕ = c.args.self.now.place in
    let cell : ℕ = cell_of c.args.cell in
    rw (c.close_cell.ensures.closed, c.right_of_cell.ensures.right) (gives-grows c.requires.seated.0 (Gives-cell_closed w p cell c.requires.seated.0))

use Rattle.std.proofs.Common.{◌≡◌, sym, ap, ◌∙◌, Some, None, Option, ℕ}
use Rattle.std.specs.Prelude.{is_some, unwrap_or}
use Rattle.std.proofs.lemmas.List.{get_or-set_same}
use Rattle.sdd_rights.specs.Right.{number_of}
use Rattle.sdd_participants.specs.declared.standing.CellContents.{CellContents}
use Rattle.sdd_world_model.specs.Cells.{cell_with}
use Rattle.sdd_world_slots.proofs.SlotsKept.{inside-some}
use Rattle.sdd_space.specs.Ptr.{cell_seen}
use Rattle.sdd_world.proofs.turn.TurnCells.compare_exchange.Goals as goal

-- after a swap the pointer is to what the cell was given
pub returns-in-Ok-clause-now : goal.returns-in-Ok-clause-now
returns-in-Ok-clause-now g c =
    let n : ℕ = number_of c.args.cell.now in
    let cells = c.world.inside.core.world.cells in
    let cell : CellContents = cell_with c.args.new c.args.tag in
    let swapped = c.in-Ok.ensures.exchanged in
    let there = ap is_some swapped.0 in
    let set = get_or-set_same cells n (Some cell) None (inside-some cells n there) in
    let seen : Some cell ≡ Some (cell_seen c.load.result) = sym set ∙ (rw swapped.3 at c.load.ensures.seen) in
    sym (ap (λ (o : Option CellContents). unwrap_or o cell) seen)

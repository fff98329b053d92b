use Rattle.std.proofs.Common.{◌≡◌, None, refl, ◌∙◌}
use Rattle.std.proofs.lemmas.List.{get_or_read}
use Rattle.sdd_world_model.specs.Cells.{right_at}
use Rattle.sdd_world_slots.proofs.Contents.{contents-at, granted-there, near-right, owner-not-free}
use Rattle.sdd_world_slots.proofs.cells.WorldCells.get.Goals as goal

pub at-requires : goal.at-requires
at-requires c =
    let i = c.self.inside in
    rw (c.number-cell.ensures)
    (granted-there i.tags i.held.items c.self.invariant.0 _ _ c.agrees.ensures.kind (owner-not-free _ c.agrees.ensures.owner)).0

pub returns : goal.returns
returns c =
    let i = c.self.inside in
    let cell = c.number-cell.result in
    let near = near-right i.tags i.held.items c.self.invariant.0 cell (rw (c.number-cell.ensures) c.agrees.ensures.inside) in
    let read : c.index.result.now ≡ right_at i.held.items cell = get_or_read i.held.items cell c.index.result.now near c.index.ensures None in
    rw (← c.self.view_is, c.slot_of.ensures, ← c.number-cell.ensures)
    (contents-at i.tags i.held.items cell ∙ rw (c.at.ensures, ← read) refl)

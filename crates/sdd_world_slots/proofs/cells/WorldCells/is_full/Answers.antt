use Rattle.sdd_world_slots.proofs.Contents.{full-to, full-from}
use Rattle.sdd_world_slots.proofs.cells.WorldCells.is_full.Goals as goal

pub returns : goal.returns
returns c =
    let i = c.self.inside in
    rw (← c.self.view_is) (λ yes. full-to i.tags i.held.items (c.is_full.ensures.0 yes), λ full. c.is_full.ensures.1 (full-from i.tags i.held.items full))

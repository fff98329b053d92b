use Rattle.sdd_world_slots.proofs.Contents.{unused-to, unused-from}
use Rattle.sdd_world_slots.proofs.cells.WorldCells.is_unused.Goals as goal

pub returns : goal.returns
returns c =
    let i = c.self.inside in
    rw (← c.self.view_is) (λ yes. unused-to i.tags i.held.items (c.is_empty.ensures.0 yes), λ none. c.is_empty.ensures.1 (unused-from i.tags i.held.items none))

use Rattle.sdd_world_slots.proofs.CellsKept.{no-right, none-take}
use Rattle.sdd_world_slots.proofs.cells.WorldCells.destroy.Goals as goal

pub loop-right-init : goal.loop-right-init
loop-right-init c = no-right c.self.invariant.0 (rw (← c.self.view_is) at c.requires)

pub loop-right-preserved : goal.loop-right-preserved
loop-right-preserved c = rw (c.pop.ensures.rest) (none-take _ _ c.loop-right.invariant)

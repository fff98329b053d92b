use Rattle.std.proofs.Common.{◌≡◌, None, ℕ, vec_len}
use Rattle.sdd_world_model.specs.Cells.{right_at}
use Rattle.sdd_world_slots.proofs.cells.WorldCells.destroy.Given as goal

abbrev pub invariant-loop-right : goal.invariant-loop-right
invariant-loop-right l = (k : ℕ) → right_at l.held.items k ≡ None

abbrev pub decreases-loop-right : goal.decreases-loop-right
decreases-loop-right l = vec_len l.held

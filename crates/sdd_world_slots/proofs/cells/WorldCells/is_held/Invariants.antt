use Rattle.std.proofs.Common.{◌≡◌, ℕ, ◌<◌, Some}
use Rattle.sdd_world_model.specs.Cells.{right_at, slot_held}
use Rattle.sdd_world_slots.proofs.cells.WorldCells.is_held.Given as goal

abbrev pub invariant-loop-owner : goal.invariant-loop-owner
invariant-loop-owner l = (k : ℕ) → k < l.owner-index → slot_held (right_at l.owner-items k) ≡ Some l.slot → ⊥

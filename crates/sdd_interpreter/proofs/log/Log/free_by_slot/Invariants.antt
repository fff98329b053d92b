use Rattle.sdd_interpreter.proofs.Words.{◌≡◌, ◌<◌, ◌≤◌, ℕ, false, is_some, length, slice_index_or, vec_capacity, standing_at, not}
use Rattle.sdd_interpreter.proofs.log.Log.free_by_slot.Given as goal

abbrev pub invariant-loop-slot : goal.invariant-loop-slot
invariant-loop-slot l = record {
  long : length l.found.items ≡ l.slot;
  room : length l.self.names.items ≤ vec_capacity l.found;
  each : (s : ℕ) → s < l.slot → slice_index_or l.found.items s false ≡ not (is_some (standing_at l.world s));
}

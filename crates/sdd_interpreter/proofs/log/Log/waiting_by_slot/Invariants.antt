use Rattle.sdd_interpreter.proofs.Words.{◌≡◌, ◌<◌, ◌≤◌, ℕ, false, length, slice_index_or, vec_capacity, standing_at, is_waiting}
use Rattle.sdd_interpreter.proofs.log.Log.waiting_by_slot.Given as goal

abbrev pub invariant-loop-slot : goal.invariant-loop-slot
invariant-loop-slot l = record {
  long : length l.found.items ≡ l.slot;
  room : length l.self.names.items ≤ vec_capacity l.found;
  each : (s : ℕ) → s < l.slot → slice_index_or l.found.items s false ≡ is_waiting (standing_at l.world s);
}

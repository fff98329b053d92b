use Rattle.sdd_interpreter.proofs.Words.{◌≡◌, ◌<◌, ◌≤◌, ℕ, false, None, is_some, if◌then◌else◌, length, slice_index_or, standing_at, ◌&&◌}
use Rattle.sdd_interpreter.proofs.items.forget_new.Given as goal

abbrev pub invariant-loop-slot : goal.invariant-loop-slot
invariant-loop-slot l = record {
  done : (s : ℕ) → s < l.slot → slice_index_or l.names.items s None
      ≡ (if is_some (standing_at l.world s) && slice_index_or l.free s false then None else slice_index_or l.initial.names.items s None);
  rest : (s : ℕ) → l.slot ≤ s → slice_index_or l.names.items s None ≡ slice_index_or l.initial.names.items s None;
  long : length l.names.items ≡ length l.initial.names.items;
}

use Rattle.sdd_interpreter.proofs.Words.{date_now, length, slice_index, ℕ, ◌<◌, ◌≡◌, ◌≤◌}
use Rattle.sdd_interpreter.proofs.items.date_new.Given as goal

abbrev pub invariant-loop-slot : goal.invariant-loop-slot
invariant-loop-slot l = record {
  done : (s : ℕ) → s < l.slot → slice_index l.dates.items s ≡ date_now l.world l.waited l.line l.initial.dates.items s;
  rest : (s : ℕ) → l.slot ≤ s → slice_index l.dates.items s ≡ slice_index l.initial.dates.items s;
  long : length l.dates.items ≡ length l.initial.dates.items;
}

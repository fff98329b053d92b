use Rattle.sdd_interpreter.proofs.Words.{◌≡◌, ◌+◌, ◌≤◌, ◌++◌, length, take, vec_capacity, names_from}
use Rattle.sdd_interpreter.proofs.items.name_all.Given as goal

abbrev pub invariant-loop-slot : goal.invariant-loop-slot
invariant-loop-slot l = record {
  slots : l.slots.items ≡ l.initial.slots.items ++ take l.slot-index l.found;
  names : l.names.items ≡ names_from l.initial.names.items (length l.initial.slots.items) (take l.slot-index l.found);
  room : length l.initial.slots.items + length l.found ≤ vec_capacity l.slots;
}

use Rattle.sdd_interpreter.proofs.Words.{◌≡◌, ◌≤◌, length, take, vec_capacity, names_in}
use Rattle.sdd_interpreter.proofs.items.names_of.Given as goal

abbrev pub invariant-loop-slot : goal.invariant-loop-slot
invariant-loop-slot l =
    (l.found.items ≡ names_in l.names (take l.slot-index l.slots)) × (length l.found.items ≤ l.slot-index) × (length l.slots ≤ vec_capacity l.found)

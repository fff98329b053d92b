use Rattle.sdd_interpreter.proofs.Words.{length, slots_among, take, vec_capacity, ◌≡◌, ◌≤◌}
use Rattle.sdd_interpreter.proofs.items.slots_among.Given as goal

abbrev pub invariant-loop-what : goal.invariant-loop-what
invariant-loop-what l =
    (l.found.items ≡ slots_among (take l.what-index l.waiting)) × (length l.found.items ≤ l.what-index) × (length l.waiting ≤ vec_capacity l.found)

use Rattle.sdd_interpreter.proofs.Words.{slots_waiting_for, ◌≡◌}
use Rattle.sdd_interpreter.proofs.items.slots_for.Given as goal

abbrev pub invariant-loop-slot : goal.invariant-loop-slot
invariant-loop-slot l = l.found.items ≡ slots_waiting_for l.world l.collector l.slot

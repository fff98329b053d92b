use Rattle.sdd_interpreter.proofs.Words.{◌≡◌, ◌≢◌, ℕ, ◌<◌, Some, None, slice_index_or, NamedGuard}
use Rattle.sdd_interpreter.proofs.participants.guard_of.Given as goal

abbrev pub invariant-loop-entry : goal.invariant-loop-entry
invariant-loop-entry l = (g : ℕ) (held : NamedGuard) → g < l.entry-index → slice_index_or l.guards.entries.items g None ≡ Some held → held.place ≢ l.place

use Rattle.sdd_interpreter.proofs.Words.{None, slice_index_or, vec_len, ℕ, ◌≡◌}
use Rattle.sdd_interpreter.proofs.name_table.NameTable.destroy_spent.Given as goal

abbrev pub decreases-loop-entry : goal.decreases-loop-entry
decreases-loop-entry g l = vec_len l.entries

abbrev pub invariant-loop-entry : goal.invariant-loop-entry
invariant-loop-entry g l = (k : ℕ) → slice_index_or l.entries.items k None ≡ None

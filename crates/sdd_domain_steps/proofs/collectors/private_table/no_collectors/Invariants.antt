use Rattle.std.proofs.Common.{◌≡◌, ◌≤◌, None, replicate, vec_len, vec_capacity}
use Rattle.sdd_domain_steps.proofs.collectors.private_table.no_collectors.Given as goal

abbrev pub invariant-loop-slot : goal.invariant-loop-slot
invariant-loop-slot l = (l.collectors.items ≡ replicate l._slot None) × (vec_len l.collectors ≡ l._slot) × (l.slots ≤ vec_capacity l.collectors)

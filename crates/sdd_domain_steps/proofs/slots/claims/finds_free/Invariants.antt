use Rattle.std.proofs.Common.{ℕ, ◌<◌}
use Rattle.sdd_domain_steps.specs.Claims.{Misses}
use Rattle.sdd_domain_steps.proofs.slots.claims.finds_free.Given as goal

abbrev pub invariant-loop-slot : goal.invariant-loop-slot
invariant-loop-slot l = Misses (λ (k : ℕ). k < l.slot) l.fn.seat l.seat

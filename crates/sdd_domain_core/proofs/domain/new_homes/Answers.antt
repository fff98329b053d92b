use Rattle.std.proofs.Common.{ℕ, ◌≤◌, subst, vec_capacity}
use Rattle.std.specs.Prelude.{IfOk}
use Rattle.sdd_domain_core.proofs.HomeCounts.{many}
use Rattle.sdd_domain_core.proofs.domain.new_homes.Goals as goal

pub returns-clause-room : goal.returns-clause-room
returns-clause-room c = subst (λ (k : ℕ). IfOk c.with_capacity.result (λ laid. k ≤ vec_capacity laid)) (many c.args.participants c.args.slots)
    c.with_capacity.ensures.capacity

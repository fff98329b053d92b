use Rattle.std.specs.Prelude.{◌≡◌}
use Rattle.sdd_space.specs.Shared as shared
use Rattle.sdd_domain_tests.proofs.threads.crowd_calls.draws.Given as goal

abbrev pub invariant-loop : goal.invariant-loop
invariant-loop g l = let caller_at = g.S.Caller.caller in record {
  caller : caller_at l.s ≡ caller_at l.fn.s;
  home : shared.slots_home l.owner ≡ shared.slots_home l.fn.owner;
}

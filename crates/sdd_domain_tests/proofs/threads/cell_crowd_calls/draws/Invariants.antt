use Rattle.std.specs.Prelude.{◌≡◌}
use Rattle.sdd_domain_tests.proofs.threads.cell_crowd_calls.draws.Given as goal

abbrev pub invariant-loop : goal.invariant-loop
invariant-loop g l = let caller_at = g.S.Caller.caller in caller_at l.s ≡ caller_at l.fn.s

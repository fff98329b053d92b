use Rattle.std.specs.Prelude.{◌≡◌}
use Rattle.sdd_domain_tests.proofs.threads.collector_crowd_calls.looks.Given as goal

abbrev pub invariant-loop : goal.invariant-loop
invariant-loop g l = let caller_at = g.S.Caller.caller in caller_at l.s ≡ caller_at l.fn.s

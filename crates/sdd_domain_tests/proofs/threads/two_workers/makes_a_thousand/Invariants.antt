use Rattle.std.specs.Prelude.{◌≡◌}
use Rattle.sdd_domain_tests.proofs.threads.two_workers.makes_a_thousand.Given as goal

abbrev pub invariant-loop-value : goal.invariant-loop-value
invariant-loop-value g l = let caller = g.S.Caller.caller in caller l.s ≡ caller l.fn.s

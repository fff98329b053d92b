use Rattle.std.specs.Prelude.{◌≡◌}
use Rattle.sdd_domain_tests.proofs.threads.two_workers.owner_at_last.Given as goal

abbrev pub invariant-loop : goal.invariant-loop
invariant-loop g l = let caller = g.S.Caller.caller in caller l.s ≡ caller l.fn.s

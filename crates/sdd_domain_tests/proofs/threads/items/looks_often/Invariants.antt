use Rattle.std.specs.Prelude.{◌≡◌}
use Rattle.sdd_domain.specs.Space.{caller_of}
use Rattle.sdd_domain_tests.proofs.threads.items.looks_often.Given as goal

abbrev pub invariant-loop : goal.invariant-loop
invariant-loop g l = caller_of l.local ≡ caller_of l.fn.local

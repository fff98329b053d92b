use Rattle.std.specs.Prelude.{◌≡◌}
use Rattle.sdd_domain.specs.Space.{caller_of}
use Rattle.sdd_domain_tests.proofs.threads.items.uses_many.Given as goal

abbrev pub invariant-loop-value : goal.invariant-loop-value
invariant-loop-value g l = caller_of l.local ≡ caller_of l.fn.local

use Rattle.std.specs.Prelude.{◌≡◌}
use Rattle.sdd_domain.specs.Space.{caller_of}
use Rattle.sdd_domain_tests.proofs.worked.slots.uses_slots.Given as goal

abbrev pub invariant-loop-slot : goal.invariant-loop-slot
invariant-loop-slot g l = caller_of l.local ≡ caller_of l.fn.local

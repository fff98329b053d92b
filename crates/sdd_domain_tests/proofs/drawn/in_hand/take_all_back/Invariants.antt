use Rattle.std.specs.Prelude.{◌≡◌}
use Rattle.sdd_domain_tests.proofs.drawn.in_hand.take_all_back.Given as goal

abbrev pub invariant-loop-ptr : goal.invariant-loop-ptr
invariant-loop-ptr g l = let caller_at = g.S.Caller.caller in caller_at l.s ≡ caller_at l.fn.s

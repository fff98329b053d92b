use Rattle.std.specs.Prelude.{◌≡◌}
use Rattle.sdd_domain_tests.specs.Hands.{IsHandOf}
use Rattle.sdd_domain_tests.proofs.drawn.random_calls.DrawnPlays.play.Given as goal

abbrev pub invariant-loop : goal.invariant-loop
invariant-loop g l = let caller_at = g.S.Caller.caller in record {
  caller : caller_at l.s ≡ caller_at l.fn.s;
  hand : IsHandOf (caller_at l.fn.s) l.hand;
}

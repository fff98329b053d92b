use Rattle.std.specs.Prelude.{◌≡◌, All, length}
use Rattle.sdd_domain_tests.proofs.drawn.in_hand.let_all_go.Given as goal

abbrev pub invariant-loop-one : goal.invariant-loop-one
invariant-loop-one g l = let caller_at = g.S.Caller.caller in record {
  caller : caller_at l.s ≡ caller_at l.fn.s;
  all : All (g.X.OfCaller.is_of (caller_at l.fn.s)) l.all.items;
}

abbrev pub decreases-loop-one : goal.decreases-loop-one
decreases-loop-one g l = length l.all.items

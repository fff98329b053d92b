use Rattle.std.proofs.Common.{◌≡◌, Some}
use Rattle.sdd_bag.specs.There.{IsThere}
use Rattle.sdd_bench.proofs.bags.bag_turns.Given as goal

abbrev pub invariant-loop-turn : goal.invariant-loop-turn
invariant-loop-turn g l = record {
  caller : g.S.Caller.caller l.space ≡ g.S.Caller.caller l.fn.space;
  there : IsThere (λ b. Some b) 32 (g.S.Caller.caller l.space) (g.S.Caller.world l.space) l.bag;
}

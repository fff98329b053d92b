use Rattle.std.proofs.Common.{◌≡◌, Some}
use Rattle.sdd_bag.specs.There.{IsThere}
use Rattle.sdd_world_tests.proofs.bags.counted.Factory.fill.Given as goal

abbrev pub invariant-loop : goal.invariant-loop
invariant-loop g l = record {
  caller : g.S.Caller.caller l.s ≡ g.S.Caller.caller l.initial.s;
  there : IsThere (λ b. Some b) 2 (g.S.Caller.caller l.s) (g.S.Caller.world l.s) l.bag;
}

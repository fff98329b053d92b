use Rattle.std.proofs.Common.{◌≡◌}
use Rattle.sdd_domain.specs.Space.{caller_of}
use Rattle.sdd_bench.proofs.configuration.publishes.Given as goal

abbrev pub invariant-loop-turn : goal.invariant-loop-turn
invariant-loop-turn l = record {
  caller : caller_of l.local ≡ caller_of l.fn.local;
  guards : l.local.member.own.guards ≡ l.fn.local.member.own.guards;
}

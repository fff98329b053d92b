use Rattle.std.specs.Prelude.{◌≡◌}
use Rattle.sdd_domain.specs.Space.{caller_of}
use Rattle.sdd_bench.proofs.rounds.works_in_rounds.Given as goal

abbrev pub invariant-loop-round : goal.invariant-loop-round
invariant-loop-round g l = record {
  caller : caller_of l.local ≡ caller_of l.fn.local;
  guards : l.local.member.own.guards ≡ l.fn.local.member.own.guards;
}

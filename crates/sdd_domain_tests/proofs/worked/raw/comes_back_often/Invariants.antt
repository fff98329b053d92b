use Rattle.std.proofs.Common.{◌≡◌}
use Rattle.sdd_space.specs.Owned as owned
use Rattle.sdd_domain.specs.Space.{caller_of, slots_home}
use Rattle.sdd_domain_tests.proofs.worked.raw.comes_back_often.Given as goal

abbrev pub invariant-loop-turn : goal.invariant-loop-turn
invariant-loop-turn g l = record {
  caller : caller_of l.local ≡ caller_of l.fn.local;
  home : owned.slots_home l.owner ≡ slots_home l.fn.local;
}

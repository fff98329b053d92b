use Rattle.std.specs.Prelude.{◌≡◌}
use Rattle.sdd_space.specs.CallerId.{IsSeated}
use Rattle.sdd_domain.specs.Space.{caller_of, slots_home}
use Rattle.sdd_domain_tests.proofs.worked.domains.two_threads_and_then_one.Given as goal

abbrev pub invariant-loop-further : goal.invariant-loop-further
invariant-loop-further g l = record { seated : IsSeated (caller_of l.local); home : slots_home l.local ≡ slots_home l.initial.local }

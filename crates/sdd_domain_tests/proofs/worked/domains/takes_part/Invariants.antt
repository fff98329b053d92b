use Rattle.std.specs.Prelude.{◌≡◌}
use Rattle.sdd_space.specs.CallerId.{IsSeated}
use Rattle.sdd_domain.specs.Space.{caller_of, slots_home}
use Rattle.sdd_domain.specs.Domain.{slots_in}
use Rattle.sdd_domain_tests.proofs.worked.domains.takes_part.Given as goal

abbrev pub invariant-loop : goal.invariant-loop
invariant-loop g l = record { seated : IsSeated (caller_of l.local); home : slots_home l.local ≡ slots_in l.domain }

use Rattle.std.specs.Prelude.{◌≡◌}
use Rattle.sdd_space.specs.CallerId.{IsSeated}
use Rattle.sdd_domain.specs.Space.{caller_of, slots_home}
use Rattle.sdd_domain.specs.Domain.{cells_in, slots_in}
use Rattle.sdd_domain_tests.proofs.threads.published.reads.Given as goal

abbrev pub invariant-loop : goal.invariant-loop
invariant-loop g l = record {
  seated : IsSeated (caller_of l.local);
  home : slots_home l.local ≡ slots_in l.domain;
  cells : (caller_of l.local).home.cells ≡ cells_in l.domain;
}

-- How many of each a domain has
use Rattle.std.specs.Prelude.{◌^◌, ◌≤◌}
use Rattle.sdd_rights.specs.declared.views.Sizes.{Sizes}

-- within the ranges of a domain's limits
pub record AreSmall (sizes : Sizes) : Type 0 where
  pub participants : sizes.participants ≤ 1024
  pub slots : sizes.slots ≤ 2 ^ 24
  pub jobs : sizes.jobs ≤ 65536
  pub cells : sizes.cells ≤ 2 ^ 24

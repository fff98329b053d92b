-- Owners that are given to four threads
use Rattle.sdd_rights.specs.Units as units
use Rattle.sdd_space.specs.Shared as shared
use Rattle.sdd_domain_tests.specs.declared.few.Four.{Four}

pub record IsFourOf {T : Type 0} (home : units.GhostName) (given : Four T) : Type 0 where
  pub first : shared.IsOfSlots home given.first
  pub second : shared.IsOfSlots home given.second
  pub third : shared.IsOfSlots home given.third
  pub fourth : shared.IsOfSlots home given.fourth

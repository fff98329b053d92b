-- Collectors that threads share, and participants of one domain
use Rattle.std.specs.Prelude.{◌≡◌, Option, IfSome}
use Rattle.sdd_rights.specs.Units as units
use Rattle.sdd_space.specs.CallerId.{IsSeated}
use Rattle.sdd_space.specs.Collector.{cells_home}
use Rattle.sdd_space.specs.declared.private_collector.PrivateCollector.{PrivateCollector}
use Rattle.sdd_domain.specs.Domain.{cells_in, slots_in}
use Rattle.sdd_domain.specs.Local.{LocalModel}
use Rattle.sdd_domain.specs.Space.{caller_of, slots_home}
use Rattle.sdd_domain_core.specs.declared.domain.Domain.{Domain}
use Rattle.sdd_domain_tests.specs.declared.few.FewCollectors.{FewCollectors}

-- their cells are numbered there
pub record AreCollectorsOf {T : Type 0} (home : units.GhostName) (collectors : FewCollectors T) : Type 0 where
  pub first : cells_home collectors.first ≡ home
  pub second : cells_home collectors.second ≡ home
  pub third : cells_home collectors.third ≡ home
  pub fourth : cells_home collectors.fourth ≡ home

module _ {T J : Type 0} (domain : Domain T) where
  -- the participant is one of the domain's
  pub record IsOneOf (local : LocalModel T J) : Type 0 where
    pub seated : IsSeated (caller_of local)
    pub slots : slots_home local ≡ slots_in domain
    pub cells : (caller_of local).home.cells ≡ cells_in domain

  -- both are
  pub record AreBothOf (locals : LocalModel T J × LocalModel T J) : Type 0 where
    pub first : IsOneOf locals.0
    pub second : IsOneOf locals.1

  -- all four are
  pub record AreFourOf (locals : (LocalModel T J × LocalModel T J) × (LocalModel T J × LocalModel T J)) : Type 0 where
    pub first : AreBothOf locals.0
    pub second : AreBothOf locals.1

  -- both are, and the collector that they are given has its cell there
  pub record IsGivenOf (given : (LocalModel T J × LocalModel T J) × PrivateCollector T) : Type 0 where
    pub locals : AreBothOf given.0
    pub collector : cells_home given.1 ≡ cells_in domain

  -- both are, and the collector that is left has its cell there, if one is
  pub record IsLeftOf (left : (LocalModel T J × LocalModel T J) × Option (PrivateCollector T)) : Type 0 where
    pub locals : AreBothOf left.0
    pub collector : IfSome left.1 (λ (collector : PrivateCollector T). cells_home collector ≡ cells_in domain)

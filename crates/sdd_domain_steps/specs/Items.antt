-- Owners of a domain's items
use Rattle.std.specs.Prelude.{◌≡◌}
use base.Stored.{Gv}
use Rattle.sdd_rights.specs.declared.right.StandingKind.{StandingKind}
use Rattle.sdd_rights.specs.declared.right.Right.{Right}
use Rattle.sdd_rights.specs.Units as seat
use Rattle.sdd_rights.specs.StandingKind.{is_shared}
use Rattle.sdd_rights.specs.Owner.{witness_of_owner}
use Rattle.sdd_rights.specs.Right.{number_of, home_of, kind_of, views_of, home_of_table}
use Rattle.sdd_domain_steps.specs.LocalState.{LocalState}

-- where the slots of its domain are numbered
abbrev pub slots_home : {J : Type 0} → LocalState J → seat.GhostName
slots_home m = home_of_table m.home m.gamma m.limits.slots

-- the owner's item shows this value
abbrev pub HasValue : Gv → Right → Type 0
HasValue value right = views_of right ≡ witness_of_owner (number_of right) (is_shared (kind_of right)) value

-- an owner of this kind of an item of its domain, which shows this value
pub record IsRightTo {J : Type 0} (m : LocalState J) (k : StandingKind) (shown : Gv) (right : Right) : Type 0 where
  pub home : home_of right ≡ slots_home m
  pub kind : kind_of right ≡ k
  pub value : HasValue shown right

-- an owner of the same item, which shows the same value
pub record IsSameOwner (right other : Right) : Type 0 where
  pub slot : number_of other ≡ number_of right
  pub home : home_of other ≡ home_of right
  pub kind : kind_of other ≡ kind_of right
  pub views : views_of other ≡ views_of right

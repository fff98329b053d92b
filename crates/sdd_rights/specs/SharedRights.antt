-- The rights of several owners in one piece
use Rattle.std.specs.Prelude.{ℕ}
use Rattle.sdd_rights.specs.Units.{GhostName}
use Rattle.sdd_rights.specs.declared.right.SharedRights.{SharedRights}

-- the number that they are to
abbrev pub number_of : SharedRights → ℕ
number_of shares = shares.name

-- the home whose number it is
abbrev pub home_of : SharedRights → GhostName
home_of shares = shares.fraction.home

-- how many owners' rights they are
abbrev pub count_of : SharedRights → ℕ
count_of shares = shares.count

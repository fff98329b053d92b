-- How many units an owner has
use Rattle.std.specs.Prelude.{ℕ, ◌-◌, ◌^◌, Bool, true, false, IsTrue}
use Rattle.sdd_rights.specs.declared.right.StandingKind.{StandingKind}
use Rattle.sdd_rights.specs.declared.right.StandingKind.TheVariants.{Free, Owned, Raw, Shared, Retired}

-- the units of a right to a number of this kind: the one owner of an owned number has all but one
abbrev pub right_units : StandingKind → ℕ
right_units Free = 1
right_units Owned = 2 ^ 63 - 1
right_units Raw = 1
right_units Shared = 1
right_units Retired = 1

abbrev pub is_owner : StandingKind → Bool
is_owner Free = false
is_owner Owned = true
is_owner Raw = false
is_owner Shared = true
is_owner Retired = false

-- the owner is one of several that there may be
abbrev pub is_shared : StandingKind → Bool
is_shared Free = false
is_shared Owned = false
is_shared Raw = false
is_shared Shared = true
is_shared Retired = false

-- an owner's number is of this kind: it is the only one, or one of several
abbrev pub IsOwner : StandingKind → Type 0
IsOwner kind = IsTrue (is_owner kind)

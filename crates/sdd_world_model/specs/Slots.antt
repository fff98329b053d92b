-- The slots of a world: how each stands, and its value
use Rattle.std.specs.Prelude.{ℕ, ◌-◌, ◌^◌, ◌≤◌, ◌≡◌, Bool, true, false, IsTrue, List, length, map, is_some, nat_lt, Option, None, Some, slice_index_or, slice_set, if◌then◌else◌}
use Rattle.sdd_rights.specs.Units.{GhostName}
use Rattle.sdd_rights.specs.RightsAuthority.{Kept, whole, granted}
use Rattle.sdd_rights.specs.declared.right.StandingKind.{StandingKind}
use Rattle.sdd_rights.specs.declared.right.StandingKind.TheVariants as kind
use Rattle.sdd_participants.specs.Slab.{Entries, entry_at, with_entry, without_entry}
use Rattle.sdd_participants.specs.declared.standing.Standing.{Standing}
use Rattle.sdd_participants.specs.declared.standing.Standing.TheVariants.{Owned, Raw, Shared, Retired, Private}

-- the home whose numbers the slots are, how each slot stands, and what value is in it
pub record Slots (T : Type 0) : Type 0 where
  pub home : GhostName
  pub standings : Entries Standing
  pub values : List (Option T)
  pub fractions : List (List (Option ℕ))
  pub readers : ℕ

-- how the item of a new right of this kind stands
abbrev pub first_standing : StandingKind → Standing
first_standing kind.Free = Owned
first_standing kind.Owned = Owned
first_standing kind.Raw = Owned
first_standing kind.Shared = Shared 1
first_standing kind.Retired = Owned

-- how many owners share it, if it is shared
abbrev pub owners_of : Option Standing → Option ℕ
owners_of None = None
owners_of (Some Owned) = None
owners_of (Some Raw) = None
owners_of (Some (Shared owners)) = Some owners
owners_of (Some Retired) = None
owners_of (Some (Private collector)) = None

-- other owners are there
abbrev pub has_others : Option Standing → Bool
has_others None = false
has_others (Some Owned) = false
has_others (Some Raw) = false
has_others (Some (Shared owners)) = nat_lt 1 owners
has_others (Some Retired) = false
has_others (Some (Private collector)) = false

-- one owner fewer: after the last one the item stands so
abbrev pub released_to : Standing → Option Standing → Standing
released_to last None = last
released_to last (Some Owned) = last
released_to last (Some Raw) = last
released_to last (Some (Shared owners)) = if nat_lt 1 owners then Shared (owners - 1) else last
released_to last (Some Retired) = last
released_to last (Some (Private collector)) = last

-- after the last one it waits
abbrev pub released_standing : Option Standing → Standing
released_standing = released_to Retired

-- so many owners share it, as many as there may be at most
pub record IsSharedBy (owners : ℕ) (standing : Option Standing) : Type 0 where
  pub shared : standing ≡ Some (Shared owners)
  pub some : 1 ≤ owners
  pub most : owners ≤ 2 ^ 62

-- an owner with a right of this kind finds the slot so
pub record IsOwnedBy (k : StandingKind) (standing : Option Standing) : Type 0 where
  pub alone : k ≡ kind.Owned → standing ≡ Some Owned
  pub together : k ≡ kind.Shared → (owners : ℕ) × IsSharedBy owners standing

module _ {T : Type 0} where
  abbrev pub standing_at : Slots T → ℕ → Option Standing
  standing_at slots k = entry_at slots.standings k

  abbrev pub value_at : Slots T → ℕ → Option T
  value_at slots k = slice_index_or slots.values k None

  -- the slot has a new value, which stands so
  abbrev pub with_made : Slots T → ℕ → T → Standing → Slots T
  with_made slots k value standing =
      record slots { standings = with_entry slots.standings k standing; values = slice_set slots.values k (Some value) }

  -- the value of the slot stands so
  abbrev pub with_standing : Slots T → ℕ → Standing → Slots T
  with_standing slots k standing = record slots { standings = with_entry slots.standings k standing }

  -- the slot has another value, which stands as the one before
  abbrev pub with_value : Slots T → ℕ → T → Slots T
  with_value slots k value = record slots { values = slice_set slots.values k (Some value) }

  -- the slot is free, and its value is gone
  abbrev pub without_slot : Slots T → ℕ → Slots T
  without_slot slots k = record slots { standings = without_entry slots.standings k; values = slice_set slots.values k None }

abbrev pub is_waiting : Option Standing → Bool
is_waiting None = false
is_waiting (Some Owned) = false
is_waiting (Some Raw) = false
is_waiting (Some (Shared owners)) = false
is_waiting (Some Retired) = true
is_waiting (Some (Private collector)) = true

-- it waits to be reclaimed, as an ordinary item or for a collector
abbrev pub IsWaiting : Option Standing → Type 0
IsWaiting standing = IsTrue (is_waiting standing)

-- what the slots keep of a number that stands so: of an owned one a single unit, of a shared one what its owners leave, else all
abbrev pub kept_of : Option Standing → Kept
kept_of None = whole kind.Free
kept_of (Some Owned) = granted kind.Owned
kept_of (Some Raw) = whole kind.Raw
kept_of (Some (Shared owners)) = record { kind = kind.Shared; units = 2 ^ 63 - owners }
kept_of (Some Retired) = whole kind.Retired
kept_of (Some (Private collector)) = whole kind.Retired

-- an item is shared by one owner at least, and by 2^62 at most
abbrev pub IsBounded : Option Standing → Type 0
IsBounded standing = (owners : ℕ) → standing ≡ Some (Shared owners) → IsSharedBy owners standing

-- each number of the home is kept as it stands, and a value is exactly where a slot is not free
pub record SlotsMatch {T : Type 0} (home : GhostName) (kept : List Kept) (standings : Entries Standing) (values : List (Option T)) : Type 0 where
  pub sized : length standings ≡ home.size
  pub told : kept ≡ map kept_of standings
  pub filled : map is_some values ≡ map is_some standings
  pub bounded : (k : ℕ) → IsBounded (entry_at standings k)

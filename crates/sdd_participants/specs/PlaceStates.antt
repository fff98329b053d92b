-- What each place is
use Rattle.std.specs.Prelude.{ℕ, ◌≤◌, Bool, true, false, List, Option, None, Some, length}
use Rattle.sdd_participants.specs.Slab.{Entries, IsListed}
use Rattle.sdd_participants.specs.declared.place_states.PlaceState.{PlaceState}
use Rattle.sdd_participants.specs.declared.place_states.PlaceState.TheVariants.{Live, Ended}

abbrev pub is_live : Option PlaceState → Bool
is_live None = false
is_live (Some Live) = true
is_live (Some Ended) = false

abbrev pub is_ended : Option PlaceState → Bool
is_ended None = false
is_ended (Some Live) = false
is_ended (Some Ended) = true

-- the places there are so far, of which each is free or not, and how many there may be
pub record PlaceStates : Type 0 where
  pub entries : Entries PlaceState
  pub room : ℕ

-- the free places are listed, and there is memory for as many as there may be
pub record IsReserved (entries : Entries PlaceState) (vacant : List ℕ) (room capacity vacant_capacity : ℕ) : Type 0 where
  pub listed : IsListed entries vacant vacant_capacity
  pub within : length entries ≤ room
  pub kept : room ≤ capacity
  pub vacant_kept : room ≤ vacant_capacity

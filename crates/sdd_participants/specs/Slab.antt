-- A table of a fixed number of places, each empty or with an entry
use Rattle.std.specs.Prelude.{ℕ, ◌<◌, ◌≤◌, ◌≡◌, ◌≢◌, count_by, is_none, map, slice_index, List, [], ◌∷◌, length, Option, Some, None, IsSome, All, slice_index_or, slice_set}

abbrev pub Entries : Type 0 → Type 0
Entries E = List (Option E)

module _ {E : Type 0} where
  abbrev pub entry_at : Entries E → ℕ → Option E
  entry_at t k = slice_index_or t k None

  abbrev pub with_entry : Entries E → ℕ → E → Entries E
  with_entry t k e = slice_set t k (Some e)

  abbrev pub without_entry : Entries E → ℕ → Entries E
  without_entry t k = slice_set t k None

  -- each place of a list is empty
  abbrev pub without_entries : Entries E → List ℕ → Entries E
  without_entries t [] = t
  without_entries t (k ∷ ks) = without_entries (without_entry t k) ks

  -- what lies in the places are entries, but in the empty ones
  unfoldable pub but_empty : List E → List ℕ → Entries E
  but_empty entries empty = without_entries (map Some entries) empty

  -- the place is there, and empty
  abbrev pub IsEmptyAt : Entries E → ℕ → Type 0
  IsEmptyAt t k = (k < length t) × (entry_at t k ≡ None)

  -- no place is empty
  abbrev pub IsFull : Entries E → Type 0
  IsFull t = All (λ e. IsSome e) t

-- the numbers of the empty places are listed, each once, and there is room for all
pub record IsListed {E : Type 0} (entries : Entries E) (empty : List ℕ) (room : ℕ) : Type 0 where
  pub each : (i : ℕ) → i < length empty → IsEmptyAt entries (slice_index empty i)
  pub once : (i j : ℕ) → i < j → j < length empty → slice_index empty i ≢ slice_index empty j
  pub all : length empty ≡ count_by is_none entries
  pub reserved : length entries ≤ room

-- The epoch's part of the rule
pub mod EpochSteps
pub mod Barred
use Rattle.std.specs.Prelude.{◌≡◌, ◌≢◌, ℕ, ◌+◌, ◌<◌, ◌≤◌, List, length, slice_index}
use mathlib.Core.Option.{some}
use lib.ListN.{get_elem?}
use Rattle.sdd_rights.specs.declared.views.EpochView.{EpochView}
use Rattle.sdd_rights.specs.declared.views.Sizes.{Sizes}
use Rattle.sdd_domain_invariant.specs.Words.{global_word, lock_word, state_word, count_word, first_slot}

abbrev pub HasPlace : EpochView → Type 0
HasPlace v = 0 < v.state

abbrev pub IsClosed : EpochView → Type 0
IsClosed v = v.state ≡ 1

abbrev pub IsOpen : EpochView → Type 0
IsOpen v = v.state ≡ 2

abbrev pub Scans : EpochView → Type 0
Scans v = v.scans ≡ 1

-- its participant is lone: no other may be
abbrev pub IsLone : EpochView → Type 0
IsLone v = v.all ≡ 1

-- a guard has published a count: the global count was at least that then, and was raised at most once since
pub record IsPublished (global : ℕ) (v : EpochView) : Type 0 where
  pub count : v.count ≤ v.since
  pub since : v.since ≤ v.known
  pub once : global ≤ v.since + 1

-- what is true of one participant and the words
pub record MatchesWords (sizes : Sizes) (ws : List ℕ) (v : EpochView) : Type 0 where
  pub all : v.all ≢ 0 → v.all ≡ sizes.participants
  pub inside : HasPlace v → v.place < sizes.participants
  pub states : v.state ≤ 2
  pub state : HasPlace v → slice_index ws (state_word sizes v.place) ≡ v.state
  pub count : HasPlace v → slice_index ws (count_word sizes v.place) ≡ v.count
  pub known : v.known ≤ slice_index ws global_word
  pub found : v.found ≤ v.known
  pub published : IsOpen v → IsPublished (slice_index ws global_word) v
  pub locked : Scans v → (slice_index ws lock_word ≡ 1) × IsOpen v
  pub lone : sizes.participants ≡ 1 → HasPlace v → slice_index ws global_word ≡ v.known

-- what is true of two participants: they have different places, one scans at most,
-- and who was passed by a scan published at its count at least
pub record Apart (v w : EpochView) : Type 0 where
  pub places : HasPlace v → HasPlace w → v.place ≢ w.place
  pub locks : Scans v → ¬ (Scans w)
  pub passed : Scans v → IsOpen w → w.place < v.looked → v.count ≤ w.since

-- the words, and what all participants know; where there is one place, each word is 0 until it is taken
pub record EpochInvariant (sizes : Sizes) (ws : List ℕ) (vs : List EpochView) : Type 0 where
  pub wide : first_slot sizes ≤ length ws
  pub each : (j : ℕ) (v : EpochView) → get_elem? vs j ≡ some v → MatchesWords sizes ws v
  pub two : (j k : ℕ) (v w : EpochView) → j ≢ k → get_elem? vs j ≡ some v → get_elem? vs k ≡ some w → Apart v w
  pub unused : sizes.participants ≡ 1 → slice_index ws (state_word sizes 0) ≡ 0 → (i : ℕ) → slice_index ws i ≡ 0
  pub held : slice_index ws lock_word ≢ 0 → (j : ℕ) × (v : EpochView) × (get_elem? vs j ≡ some v) × Scans v

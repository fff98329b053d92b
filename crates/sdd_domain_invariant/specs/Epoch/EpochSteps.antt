-- What each step of the epoch's part makes of what the participant knows, and what it tells
use Rattle.std.specs.Prelude.{None, ◌≡◌, ◌≢◌, ◌⊎◌, ℕ, ◌+◌, ◌^◌, ◌<◌, ◌≤◌, List, slice_index, slice_set}
use mathlib.Core.Option.{some}
use lib.ListN.{get_elem?}
use Rattle.sdd_rights.specs.declared.views.EpochView.{EpochView}
use Rattle.sdd_rights.specs.declared.views.Sizes.{Sizes}
use Rattle.sdd_domain_invariant.specs.Words.{state_word, count_word}
use Rattle.sdd_domain_invariant.specs.Epoch.{HasPlace, IsOpen, Scans, IsLone, EpochInvariant}

-- the seat id, which knows v, takes a step on the word i: whatever the words and the others are,
-- it knows something after it by which the part is kept, and of which more is told
abbrev pub Steps : {X : Type 0} → (List ℕ → List X → Type 0) → ℕ → X → ℕ → (ℕ → ℕ) → (ℕ → X → Type 0) → Type 0
Steps {X} part id v i f then = (ws : List ℕ) (xs : List X) → part ws xs → get_elem? xs id ≡ some v → slice_index ws i < 2 ^ 64
    → (w : X) × part (slice_set ws i (f (slice_index ws i))) (slice_set xs id w) × then (slice_index ws i) w

-- what each step but a close keeps, and other parts may rely on: what is known rises, and an open guard stays as it is published
pub record Rises (v w : EpochView) : Type 0 where
  pub known : v.known ≤ w.known
  pub found : v.found ≤ w.found
  pub guard : IsOpen v → IsOpen w × (w.since ≡ v.since) × (w.place ≡ v.place)

-- the same of the epoch's part
abbrev pub Keeps : Sizes → ℕ → EpochView → ℕ → (ℕ → ℕ) → (ℕ → EpochView → Type 0) → Type 0
Keeps sizes id v i f then = (ws : List ℕ) (vs : List EpochView) → EpochInvariant sizes ws vs → get_elem? vs id ≡ some v → slice_index ws i < 2 ^ 64
    → (w : EpochView) × EpochInvariant sizes (slice_set ws i (f (slice_index ws i))) (slice_set vs id w) × Rises v w × then (slice_index ws i) w

abbrev pub registered : ℕ → ℕ → ℕ → ℕ → EpochView
registered n p c g = record { all = n; place = p; state = 1; count = c; since = 0; known = g; found = 0; scans = 0; looked = 0; ended = 0; adopts = None }

abbrev pub knowing : EpochView → ℕ → EpochView
knowing v c = record v { known = c }

abbrev pub counted : EpochView → ℕ → EpochView
counted v c = record v { count = c }

abbrev pub published : EpochView → ℕ → EpochView
published v g = record v { state = 2; since = g; known = g; found = v.count }

abbrev pub closed : EpochView → EpochView
closed v = record v { state = 1 }

abbrev pub ended : EpochView → EpochView
ended v = record v { state = 0; ended = 1 }

abbrev pub scanning : EpochView → EpochView
scanning v = record v { scans = 1; looked = 0 }

abbrev pub passed_by : EpochView → ℕ → EpochView
passed_by v q = record v { looked = q + 1 }

abbrev pub unlocked : EpochView → EpochView
unlocked v = record v { scans = 0 }

-- q is the next place to be looked at, the own one left out; as many as there are places: all were looked at
abbrev pub IsNext : EpochView → ℕ → Type 0
IsNext v q = Scans v × ((q ≡ v.looked) ⊎ ((v.looked ≡ v.place) × (q ≡ v.place + 1)))

-- each of these: what was known before, the number found (at a store the number stored), and what is known after
-- a place that was free is taken; a lone participant finds that its count word and the global count are 0
abbrev pub Takes : EpochView → ℕ → EpochView → Type 0
Takes v p w = (c : ℕ) × (g : ℕ) × (w ≡ registered v.all p c g) × (IsLone v → (c ≡ 0) × (g ≡ 0))

abbrev pub Registers : Sizes → ℕ → EpochView → ℕ → EpochView → Type 0
Registers sizes i v x w = (p : ℕ) → i ≡ state_word sizes p → (x ≡ 0 → Takes v p w) × (x ≢ 0 → w ≡ v)

-- the count read is at least what was known; under an open guard it is the one at the publish, or one more
abbrev pub Reads : EpochView → ℕ → EpochView → Type 0
Reads v c w = (w ≡ knowing v c) × (v.known ≤ c) × (IsOpen v → (v.since ≤ c) × (c ≤ v.since + 1)) × (IsLone v → HasPlace v → c ≡ v.known)

abbrev pub Counts : EpochView → ℕ → EpochView → Type 0
Counts v c w = w ≡ counted v c

abbrev pub Publishes : EpochView → ℕ → EpochView → Type 0
Publishes v x w = (g : ℕ) × (w ≡ published v g) × (v.known ≤ g) × (IsLone v → g ≡ v.known)

abbrev pub Closes : EpochView → ℕ → EpochView → Type 0
Closes v x w = w ≡ closed v

abbrev pub Ends : EpochView → ℕ → EpochView → Type 0
Ends v x w = w ≡ ended v

abbrev pub Locks : EpochView → ℕ → EpochView → Type 0
Locks v x w = (x ≡ 0 → w ≡ scanning v) × (x ≢ 0 → w ≡ v) × (IsLone v → x ≡ 0)

-- a look at the lock, which a lone participant finds free
abbrev pub LooksAtLock : EpochView → ℕ → EpochView → Type 0
LooksAtLock v x w = (w ≡ v) × (IsLone v → x ≡ 0)

abbrev pub LooksAtState : Sizes → ℕ → EpochView → ℕ → EpochView → Type 0
LooksAtState sizes i v x w = (q : ℕ) → i ≡ state_word sizes q → (x ≢ 2 → w ≡ passed_by v q) × (x ≡ 2 → w ≡ v)

abbrev pub LooksAtCount : Sizes → ℕ → EpochView → ℕ → EpochView → Type 0
LooksAtCount sizes i v x w = (q : ℕ) → i ≡ count_word sizes q → (x ≡ v.count → w ≡ passed_by v q) × (x ≢ v.count → w ≡ v)

abbrev pub Advances : EpochView → ℕ → EpochView → Type 0
Advances v x w = (x ≡ v.count → w ≡ knowing v (v.count + 1)) × (x ≢ v.count → w ≡ v) × (IsLone v → x ≡ v.known)

abbrev pub Unlocks : EpochView → ℕ → EpochView → Type 0
Unlocks v x w = w ≡ unlocked v

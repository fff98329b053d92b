-- What is known of places that are barred, and of slots once all are
use Rattle.std.specs.Prelude.{◌≡◌, ◌≢◌, ◌⊎◌, ℕ, ◌+◌, ◌<◌, ◌≤◌, List, slice_index}
use Rattle.sdd_rights.specs.declared.views.View.{View}
use Rattle.sdd_rights.specs.declared.views.Sizes.{Sizes}
use Rattle.sdd_domain_invariant.specs.Words.{state_word}
use Rattle.sdd_domain_invariant.specs.Codes.{full}
use Rattle.sdd_domain_invariant.specs.Slots.{slot_at}

-- a place in this state is nobody's: it is free, or its participant has ended
abbrev pub IsNobodys : ℕ → Type 0
IsNobodys state = (state ≡ 0) ⊎ (state ≡ 3)

-- a place in this state has ended, or is barred
abbrev pub IsOver : ℕ → Type 0
IsOver state = 3 ≤ state

-- a place in this state is barred: nobody takes part there, nor will
abbrev pub IsBarred : ℕ → Type 0
IsBarred state = 4 ≤ state

-- each place of which it is known is barred
abbrev pub AreBarred : Sizes → List ℕ → View → Type 0
AreBarred sizes ws v = (p : ℕ) → p < sizes.participants → p < v.places.ended → IsBarred (slice_index ws (state_word sizes p))

-- each slot of which it is known is quiet: it is free, and nobody can claim it, since all places are barred
abbrev pub AreQuiet : Sizes → List ℕ → View → Type 0
AreQuiet sizes ws v = (i : ℕ) → i < v.places.quiet → (full (slot_at sizes ws i) ≡ 0) × (sizes.participants ≤ v.places.ended)

-- it knows that this place, the next one, is barred too
abbrev pub past : ℕ → View → View
past p v = record v { places = record v.places { ended = p + 1 } }

-- and that the next slot is quiet too
abbrev pub past_quiet : View → View
past_quiet v = record v { places = record v.places { quiet = v.places.quiet + 1 } }

-- a place is barred, as long as it is in this state: it is barred then, or was before, unless another state is found
abbrev pub Bars : Sizes → ℕ → ℕ → View → ℕ → View → Type 0
Bars sizes state i v x w = (p : ℕ) → i ≡ state_word sizes p → ((x ≡ state) ⊎ IsBarred x → w ≡ past p v) × (x ≢ state → ¬ (IsBarred x) → w ≡ v)

-- a look at the word of the next slot, once all places are barred: is it free?
abbrev pub LooksForValue : View → ℕ → View → Type 0
LooksForValue v x w = (full x ≡ 0 → w ≡ past_quiet v) × (full x ≢ 0 → w ≡ v)

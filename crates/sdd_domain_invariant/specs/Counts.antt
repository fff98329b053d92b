-- The counts' part of the rule: what was made lies in slots, or has gone again
use Rattle.std.specs.Prelude.{◌≡◌, ℕ, zero, suc, ◌+◌, ◌≤◌, List, slice_index, leb}
use mathlib.Core.Option.{some}
use lib.ListN.{get_elem?}
use prog.Atomic.{either}
use Rattle.sdd_rights.specs.declared.views.View.{View}
use Rattle.sdd_rights.specs.declared.views.Sizes.{Sizes}
use Rattle.sdd_domain_invariant.specs.Words.{first_slot, state_word}
use Rattle.sdd_domain_invariant.specs.Sums.{total, span}
use Rattle.sdd_domain_invariant.specs.Codes.{valued}

-- how many items it made, how many it gave back, and how many places it counts for that have ended
abbrev pub made_by : View → ℕ
made_by v = v.fractions.counts.made

abbrev pub gone_by : View → ℕ
gone_by v = v.fractions.counts.gone

abbrev pub over_by : View → ℕ
over_by v = v.fractions.counts.over

-- 1 where a place in this state has ended, or is barred
abbrev pub over : ℕ → ℕ
over state = either (leb 3 state) 1 0

-- how many of the first places have ended, or are barred
abbrev pub ended_places : Sizes → List ℕ → ℕ → ℕ
ended_places sizes ws zero = 0
ended_places sizes ws (suc p) = over (slice_index ws (state_word sizes p)) + ended_places sizes ws p

-- how many slots have a value
abbrev pub full_slots : Sizes → List ℕ → ℕ
full_slots sizes ws = span valued ws (first_slot sizes) sizes.slots

-- it made nothing and gave nothing back
abbrev pub HasNoCounts : View → Type 0
HasNoCounts v = (made_by v ≡ 0) × (gone_by v ≡ 0)

-- without a place, and with none that has ended, nothing was made
abbrev pub CountsByPlace : View → Type 0
CountsByPlace v = v.epoch.state ≡ 0 → over_by v ≡ 0 → HasNoCounts v

-- the words, and what all participants know: what was made has gone again or lies in a slot, and each place that has ended is counted once at most
pub record CountsInvariant (sizes : Sizes) (ws : List ℕ) (vs : List View) : Type 0 where
  pub items : total made_by vs ≡ total gone_by vs + full_slots sizes ws
  pub places : total over_by vs ≤ ended_places sizes ws sizes.participants
  pub each : (j : ℕ) (v : View) → get_elem? vs j ≡ some v → CountsByPlace v

-- The bound's part of the rule: how many owners a word counts
use Rattle.std.specs.Prelude.{◌≡◌, ℕ, ◌+◌, ◌<◌, ◌≤◌, List}
use mathlib.Core.Option.{some}
use lib.ListN.{get_elem?}
use Rattle.sdd_rights.specs.declared.views.View.{View}
use Rattle.sdd_rights.specs.declared.views.Sizes.{Sizes}
use Rattle.sdd_domain_invariant.specs.Codes.{alive, counted, most_owners}
use Rattle.sdd_domain_invariant.specs.Epoch.{HasPlace}
use Rattle.sdd_domain_invariant.specs.Slots.{slot_at}
use Rattle.sdd_domain_invariant.specs.Sums.{total}
use Rattle.sdd_domain_invariant.specs.Fractions.BankInvariant.{moved_in}

-- 1 where it has raised the count of the slot i past the bound, and not yet taken that back
abbrev pub over_at : ℕ → View → ℕ
over_at i v = moved_in i v.slots.over

-- the words, and what all participants know: a count is at most that, and one more for each that has passed it; each of these has a place
pub record BoundInvariant (sizes : Sizes) (ws : List ℕ) (vs : List View) : Type 0 where
  pub bound : (i : ℕ) → counted (slot_at sizes ws i) ≡ 1 → alive (slot_at sizes ws i) ≤ most_owners + total (over_at i) vs
  pub once : (j : ℕ) (v : View) → get_elem? vs j ≡ some v → (i : ℕ) → 0 < over_at i v → HasPlace v.epoch

-- The owners' part of the rule: whether the word of a slot counts its owners, as far as views tell, how many they are, and what is pledged beside them
use Rattle.std.specs.Prelude.{◌≡◌, ℕ, List, length, slice_index}
use mathlib.Core.Option.{some}
use lib.ListN.{get_elem?}
use Rattle.sdd_rights.specs.declared.views.ShownValue.{ShownValue}
use Rattle.sdd_rights.specs.declared.views.View.{View}
use Rattle.sdd_rights.specs.declared.views.Sizes.{Sizes}
use Rattle.sdd_domain_invariant.specs.Words.{words_behind}
use Rattle.sdd_domain_invariant.specs.Codes.{alive, counted}
use Rattle.sdd_domain_invariant.specs.Slots.{slot_at, Owns, Holds}
use Rattle.sdd_domain_invariant.specs.Slots.SlotSteps.{behind}
use Rattle.sdd_domain_invariant.specs.Fractions.FractionsAtHome.{Moves}
use Rattle.sdd_domain_invariant.specs.Fractions.BankInvariant.{one_where}
use Rattle.sdd_domain_invariant.specs.Slots.FilledInvariant.{HasRecord}
use Rattle.sdd_domain_invariant.specs.Slots.BoundInvariant.{BoundInvariant}
use Rattle.sdd_domain_invariant.specs.Fractions.PledgesInvariant.{PledgesInvariant}
use Rattle.sdd_domain_invariant.specs.Cells.CellsInvariant.{CellsInvariant}

-- the word of a slot as it wrote it last
abbrev pub written : View → ℕ → ℕ
written v i = slice_index v.words (behind v.sizes i)

-- what is true of one participant and the words: it has a note of each word behind the places'; who moves the value of a slot of its own is its only
-- owner, and wrote its word, unless it holds it; and a record of a slot that it doesn't hold says whether its owners are counted
pub record KnowsKinds (sizes : Sizes) (ws : List ℕ) (v : View) : Type 0 where
  pub long : length v.words ≡ words_behind v.sizes
  pub sole : (i : ℕ) → Moves v i → Owns v i → alive (slot_at sizes ws i) ≡ 1
  pub claimed : (i : ℕ) → Moves v i → Owns v i → ¬ (Holds v i) → counted (slot_at sizes ws i) ≡ counted (written v i)
  pub told : (r : ShownValue) → HasRecord v.fractions.owns r → ¬ (Holds v r.slot) → counted (slot_at sizes ws r.slot) ≡ one_where r.shared

-- the owners' part: the words, what all participants know, how many owners words count, what is pledged, and what cells hold
pub record KindsInvariant (sizes : Sizes) (ws : List ℕ) (vs : List View) : Type 0 where
  pub each : (j : ℕ) (v : View) → get_elem? vs j ≡ some v → KnowsKinds sizes ws v
  pub bound : BoundInvariant sizes ws vs
  pub pledges : PledgesInvariant vs
  pub cells : CellsInvariant sizes ws vs

-- What is known of what slots show: by a seat of its owner, once the value was moved in, by who sees it under a guard, and by whom its item waits with
use Rattle.std.specs.Prelude.{◌≡◌, ◌⊎◌, ℕ, ◌<◌, ◌≤◌, List, [], ◌∷◌, map}
use mathlib.Core.Option.{some}
use lib.ListN.{get_elem?}
use base.Stored.{Gv}
use Rattle.sdd_rights.specs.declared.views.ShownValue.{ShownValue}
use Rattle.sdd_rights.specs.declared.views.View.{View}
use Rattle.sdd_rights.specs.declared.views.Sizes.{Sizes}
use Rattle.sdd_domain_invariant.specs.Slots.{items_at, Owns, Sees}
use Rattle.sdd_shared_values.specs.declared.value_fraction.ValueFraction.{ValueFraction}
use Rattle.sdd_shared_values.specs.ValueFractions.{FractionContent}
use Rattle.sdd_domain_invariant.specs.Fractions.BankInvariant.{IsBank, banked}
use Rattle.sdd_domain_invariant.specs.Fractions.FractionsAtHome.{FractionsAtHome, LiesAt, Moves}

abbrev pub slot_shown : ShownValue → ℕ
slot_shown r = r.slot

-- one of these records says that the slot i shows g
abbrev pub IsIn : List ShownValue → ℕ → Gv → Type 0
IsIn rs i g = (k : ℕ) × (r : ShownValue) × (get_elem? rs k ≡ some r) × (r.slot ≡ i) × (r.value ≡ g)

abbrev pub KnowsShown : View → ℕ → Gv → Type 0
KnowsShown v i g = IsIn v.fractions.owns i g ⊎ (IsIn v.fractions.sees i g ⊎ IsIn v.fractions.waits i g)

-- somebody knows it
abbrev pub IsKnown : List View → ℕ → Gv → Type 0
IsKnown vs i g = (j : ℕ) × (v : View) × (get_elem? vs j ≡ some v) × KnowsShown v i g

-- it has a record of each slot of which it has an owner, and of each whose item waits with it, but of one whose value it moves; and one for each time
-- that it sees a slot; and no others. There are so many slots: of no job's place has it any
pub record IsTelling (slots : ℕ) (v : View) : Type 0 where
  pub owns : (i : ℕ) (g : Gv) → IsIn v.fractions.owns i g → Owns v i × ¬ (Moves v i)
  pub owned : (i : ℕ) → Owns v i → ¬ (Moves v i) → (g : Gv) × IsIn v.fractions.owns i g
  pub sees : map slot_shown v.fractions.sees ≡ v.slots.sees
  pub waits : (i : ℕ) (g : Gv) → IsIn v.fractions.waits i g → (0 < items_at i v) × ¬ (Moves v i)
  pub waiting : (i : ℕ) → i < slots → 0 < items_at i v → ¬ (Moves v i) → (g : Gv) × IsIn v.fractions.waits i g
  pub inside : (i : ℕ) (g : Gv) → KnowsShown v i g → i < slots

-- what a deposit of units shows is what is known of its slot
abbrev pub ShowsKnown : List View → FractionContent → Type 0
ShowsKnown vs l = (g : Gv) → IsKnown vs l.number g → l.shown ≡ g

abbrev pub AllShowKnown : List View → List FractionContent → Type 0
AllShowKnown vs [] = Unit {0}
AllShowKnown vs (l ∷ ls) = ShowsKnown vs l × AllShowKnown vs ls

-- all that is known of a slot is one value, which the fractions at home show, and the bank's deposits; and nobody sees a slot whose value is moved
pub record RecordsInvariant (sizes : Sizes) (vs : List View) (hs : FractionsAtHome) : Type 0 where
  pub each : (j : ℕ) (v : View) → get_elem? vs j ≡ some v → IsTelling sizes.slots v
  pub agree : (i : ℕ) (g h : Gv) → IsKnown vs i g → IsKnown vs i h → g ≡ h
  pub home : (i p : ℕ) (g : Gv) (y : ValueFraction) → i < sizes.slots → p ≤ sizes.participants → IsKnown vs i g → LiesAt sizes.participants hs i p y
      → y.content.shown ≡ g
  pub deposits : (j : ℕ) (b : View) → get_elem? vs j ≡ some b → IsBank b → AllShowKnown vs (banked b)
  pub apart : (j k : ℕ) (v w : View) (i : ℕ) → get_elem? vs j ≡ some v → get_elem? vs k ≡ some w → Moves v i → ¬ (Sees w i)

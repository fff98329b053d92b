-- The fillings' part of the rule: what a lone participant knows of owners and of items that wait, by what it moved into slots
use Rattle.std.specs.Prelude.{◌≡◌, ◌⊎◌, ℕ, ◌==◌, if◌then◌else◌, List, [], ◌∷◌, Option, Some, None}
use mathlib.Core.Option.{some}
use lib.ListN.{get_elem?}
use Rattle.sdd_rights.specs.declared.views.ShownValue.{ShownValue}
use Rattle.sdd_rights.specs.declared.views.View.{View}
use Rattle.sdd_rights.specs.declared.views.Sizes.{Sizes}
use Rattle.sdd_domain_invariant.specs.Epoch.{HasPlace}

-- the newest of these records of a slot
abbrev pub newest : ℕ → List ShownValue → Option ShownValue
newest slot [] = None
newest slot (r ∷ rs) = if r.slot == slot then Some r else newest slot rs

-- one of these records is this one
abbrev pub HasRecord : List ShownValue → ShownValue → Type 0
HasRecord rs r = (m : ℕ) × (get_elem? rs m ≡ some r)

-- it has this record, of a slot of which it has an owner, or whose item waits with it
abbrev pub Tells : View → ShownValue → Type 0
Tells u r = HasRecord u.fractions.owns r ⊎ HasRecord u.fractions.waits r

-- where there is one place, its participant knows what the seat of each owner tells, and what is remembered of each item that waits
pub record FilledInvariant (sizes : Sizes) (vs : List View) : Type 0 where
  pub knows : sizes.participants ≡ 1 → (j k : ℕ) (v u : View) (r : ShownValue) → get_elem? vs j ≡ some v → HasPlace v.epoch → get_elem? vs k ≡ some u
      → Tells u r → newest r.slot v.fractions.filled ≡ Some r

-- The last fractions' part of the rule: what is known of what a slot shows where no participant knows it, as of an item that is out as raw or in a cell
use Rattle.std.specs.Prelude.{◌≡◌, ◌⊎◌, ℕ, ◌+◌, ◌<◌, ◌≤◌, Bool, List, [], ◌∷◌, Some, false}
use mathlib.Core.Option.{some}
use lib.ListN.{get_elem?}
use base.Stored.{Gv}
use Rattle.sdd_shared_values.specs.ValueFractions.{FractionContent}
use Rattle.sdd_shared_values.specs.declared.value_fraction.ValueFraction.{ValueFraction}
use Rattle.sdd_rights.specs.declared.views.View.{View}
use Rattle.sdd_rights.specs.declared.views.Sizes.{Sizes}
use Rattle.sdd_domain_invariant.specs.Codes.{valued, private, emptying, counted, raw_word}
use Rattle.sdd_domain_invariant.specs.Epoch.{HasPlace}
use Rattle.sdd_domain_invariant.specs.Slots.{slot_at}
use Rattle.sdd_domain_invariant.specs.Fractions.FractionsAtHome.{FractionsAtHome, LiesAt}
use Rattle.sdd_domain_invariant.specs.Slots.FilledInvariant.{newest}
use Rattle.sdd_domain_invariant.specs.Fractions.BankInvariant.{one_where, banked, IsBank}
use Rattle.sdd_domain_invariant.specs.Cells.CellsInvariant.{IsInCell}

-- those of these deposits that are of the slot i show g
abbrev pub ShowOnly : ℕ → Gv → List FractionContent → Type 0
ShowOnly i g [] = Unit {0}
ShowOnly i g (d ∷ ds) = (d.number ≡ i → d.shown ≡ g) × ShowOnly i g ds

-- the item of the slot is out as raw
abbrev pub IsRaw : Sizes → List ℕ → ℕ → Type 0
IsRaw sizes ws i = slot_at sizes ws i ≡ raw_word 0

-- the last fraction of the slot i is at home, and it is this one
abbrev pub LastIs : Sizes → FractionsAtHome → ℕ → ValueFraction → Type 0
LastIs sizes hs i z = LiesAt sizes.participants hs i sizes.participants z

-- what it has of a slot, as the bank, shows what the slot's last fraction does, where that is at home
abbrev pub ShowsLast : Sizes → FractionsAtHome → View → Type 0
ShowsLast sizes hs b = (i : ℕ) (z : ValueFraction) → i < sizes.slots → LastIs sizes hs i z → ShowOnly i z.content.shown (banked b)

-- no view has an owner of the item: it is out as raw, or a cell holds its owner, which is one of several that there may be, or not
abbrev pub IsStored : Sizes → List ℕ → ℕ → Bool → Type 0
IsStored sizes ws i shared = (IsRaw sizes ws i × (shared ≡ false)) ⊎ (IsInCell sizes ws i × (counted (slot_at sizes ws i) ≡ one_where shared))

-- what an item shows that is stored it moved in last, for an owner of this kind
abbrev pub KnowsStored : Sizes → List ℕ → FractionsAtHome → View → Type 0
KnowsStored sizes ws hs v = (i : ℕ) (shared : Bool) (z : ValueFraction) → i < sizes.slots → IsStored sizes ws i shared → LastIs sizes hs i z
    → newest i v.fractions.filled ≡ Some (record { slot = i; shared = shared; value = z.content.shown })

-- an item with this word is hidden: it waits for a collector, or a close empties its slot, and its value is there still. Who has it in a bag remembers
-- nothing of what it shows, since the close of another may move that out
abbrev pub HidesItem : ℕ → Type 0
HidesItem x = (0 < private x + emptying x) × (valued x ≡ 1)

abbrev pub IsHidden : Sizes → List ℕ → ℕ → Type 0
IsHidden sizes ws i = HidesItem (slot_at sizes ws i)

-- what an item shows that is hidden it moved in last, for an owner of some kind
abbrev pub KnowsHidden : Sizes → List ℕ → FractionsAtHome → View → Type 0
KnowsHidden sizes ws hs v = (i : ℕ) (z : ValueFraction) → i < sizes.slots → IsHidden sizes ws i → LastIs sizes hs i z
    → (shared : Bool) × (newest i v.fractions.filled ≡ Some (record { slot = i; shared = shared; value = z.content.shown }))

-- where a slot's last fraction is at home, the others that are at home show what it shows, and so does what the bank has of the slot;
-- and where there is one place, its participant knows it of an item that is stored, and of one that is hidden
pub record LastsInvariant (sizes : Sizes) (ws : List ℕ) (vs : List View) (hs : FractionsAtHome) : Type 0 where
  pub alike : (i p : ℕ) (y z : ValueFraction) → i < sizes.slots → p ≤ sizes.participants → LiesAt sizes.participants hs i p y → LastIs sizes hs i z
      → y.content.shown ≡ z.content.shown
  pub banks : (j : ℕ) (b : View) → get_elem? vs j ≡ some b → IsBank b → ShowsLast sizes hs b
  pub stored : sizes.participants ≡ 1 → (j : ℕ) (v : View) → get_elem? vs j ≡ some v → HasPlace v.epoch → KnowsStored sizes ws hs v
  pub hidden : sizes.participants ≡ 1 → (j : ℕ) (v : View) → get_elem? vs j ≡ some v → HasPlace v.epoch → KnowsHidden sizes ws hs v

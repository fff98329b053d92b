-- The homes' part of the rule. The slots of the table are the homes of fractions: for the value of each slot of the domain, one fraction for each place,
-- and a last one. While the slot is free the last one has all units but those of the others; else each has one, and the bank and the owners have the
-- rest. What a guard sees, it may look at by the fraction of its place; who moves the value in or out has all fractions in it.
use Rattle.std.specs.Prelude.{◌≡◌, ◌⊎◌, ℕ, suc, ◌+◌, ◌-◌, ◌*◌, ◌<◌, ◌≤◌, List, length, slice_index_or, Some, eqb, true, false}
use mathlib.Core.Option.{Option, some}
use lib.ListN.{get_elem?}
use prog.Atomic.{either}
use base.Stored.{Gv}
use Rattle.core.specs.Mem.Slots.{slots_items, slots_filled, slots_len}
use Rattle.atomic_table.specs.declared.owned.Closed.{Closed}
use Rattle.sdd_shared_values.specs.SharedValues.{IsValueCode, IsNoValueCode, most, content}
use Rattle.sdd_shared_values.specs.declared.value_fraction.ValueFraction.{ValueFraction}
use Rattle.sdd_rights.specs.declared.views.View.{View}
use Rattle.sdd_rights.specs.declared.views.Sizes.{Sizes}
use Rattle.sdd_domain_invariant.specs.Codes.{valued}
use Rattle.sdd_domain_invariant.specs.Epoch.{HasPlace}
use Rattle.sdd_domain_invariant.specs.Slots.{slot_at, items_at, Owns, Sees}
use Rattle.sdd_domain_invariant.specs.Collectors.{Empties}

-- what lies in the table's slots, where it is at home
abbrev pub FractionsAtHome : Type 0
FractionsAtHome = List (Option ValueFraction)

-- what a seat carries: each fraction with the slot of the table that is its home
abbrev pub CarriedFractions : Type 0
CarriedFractions = List (ℕ × ValueFraction)

-- the home of the p-th fraction in the value of the slot i, where there are n places
unfoldable pub fraction_at : ℕ → ℕ → ℕ → ℕ
fraction_at n i p = i * suc n + p

-- how many homes there are for m slots
unfoldable pub homes_for : ℕ → ℕ → ℕ
homes_for n m = m * suc n

-- its units, where o units are elsewhere: one for each place, and all others in the last fraction
abbrev pub share : ℕ → ℕ → ℕ → ℕ
share n o p = either (eqb p n) (most - n - o) 1

-- all units but one for each fraction
abbrev pub spare : ℕ → ℕ
spare n = most - suc n

-- how many units are elsewhere, where the slot isn't free (1), and where it is (0)
abbrev pub away : ℕ → ℕ → ℕ
away n f = either (eqb f 0) 0 (spare n)

-- 1 where the slot's value is there, or is being moved
abbrev pub full_at : Sizes → List ℕ → ℕ → ℕ
full_at sizes ws i = valued (slot_at sizes ws i)

-- so many units of the place i of the ghost map γ, which aren't lent and show this
abbrev pub Has : ℕ → ℕ → ℕ → (Gv → Type 0) → ValueFraction → Type 0
Has γ i units Is y = (y.content ≡ content γ i y.content.lifetime y.content.shown units) × Is y.content.shown

-- what units at home show: a value, but where the slot is free
abbrev pub MatchesSlotWord : ℕ → Gv → Type 0
MatchesSlotWord f g = (f ≡ 1 → IsValueCode g) × (f ≡ 0 → IsNoValueCode g)

-- it moves the value of the slot i, in or out
abbrev pub Moves : View → ℕ → Type 0
Moves v i = v.fractions.moves ≡ Some i

-- a guard of the place p sees the slot
abbrev pub SeesFrom : View → ℕ → ℕ → Type 0
SeesFrom v i p = Sees v i × (v.epoch.place ≡ p)

-- the p-th fraction in the slot i is out with it: with all others, as the value is moved, or alone, as a guard of its place sees the slot
abbrev pub FractionIsTaken : View → ℕ → ℕ → Type 0
FractionIsTaken v i p = Moves v i ⊎ SeesFrom v i p

abbrev pub NoneOut : List View → ℕ → ℕ → Type 0
NoneOut vs i p = (j : ℕ) (v : View) → get_elem? vs j ≡ some v → ¬ (FractionIsTaken v i p)

-- who moves a value has a place and an owner of it, or its item waits with it, or it empties its slot for a close
abbrev pub IsMover : View → Type 0
IsMover v = (i : ℕ) → Moves v i → HasPlace v.epoch × (Owns v i ⊎ ((0 < items_at i v) ⊎ Empties v i))

-- the p-th fraction in the slot i is at home, and it is this one
abbrev pub LiesAt : ℕ → FractionsAtHome → ℕ → ℕ → ValueFraction → Type 0
LiesAt n hs i p y = get_elem? hs (fraction_at n i p) ≡ some (some y)

abbrev pub IsAtHome : ℕ → FractionsAtHome → ℕ → ℕ → Type 0
IsAtHome n hs i p = (y : ValueFraction) × LiesAt n hs i p y

-- the ghost map of the values' places, the words, what all participants know, and what lies at home: a fraction is there unless someone has it out
pub record FractionsInvariant (γ : ℕ) (sizes : Sizes) (ws : List ℕ) (vs : List View) (hs : FractionsAtHome) : Type 0 where
  pub few : suc (suc sizes.participants) < most
  pub deep : length hs ≡ homes_for sizes.participants sizes.slots
  pub home : (i p : ℕ) (y : ValueFraction) → i < sizes.slots → p ≤ sizes.participants → LiesAt sizes.participants hs i p y
      → Has γ i (share sizes.participants (away sizes.participants (full_at sizes ws i)) p) (MatchesSlotWord (full_at sizes ws i)) y
  pub back : (i p : ℕ) → i < sizes.slots → p ≤ sizes.participants → NoneOut vs i p → IsAtHome sizes.participants hs i p
  pub moving : (j : ℕ) (v : View) → get_elem? vs j ≡ some v → IsMover v

-- the first k homes' fractions in a row, where so many units of the slot i are elsewhere, and what those in it show is so
pub record AreLaidTo (γ n k : ℕ) (elsewhere : ℕ → ℕ) (Is : ℕ → Gv → Type 0) (fractions : List ValueFraction) : Type 0 where
  pub long : length fractions ≡ k
  pub each : (i p : ℕ) → p ≤ n → fraction_at n i p < k
      → (y : ValueFraction) × (get_elem? fractions (fraction_at n i p) ≡ some y) × Has γ i (share n (elsewhere i) p) (Is i) y

-- before anybody takes part: in each home its fraction, which shows that the place is vacant
abbrev pub all_vacant : ℕ → Gv → Type 0
all_vacant i = IsNoValueCode

abbrev pub none_away : ℕ → ℕ
none_away i = 0

abbrev pub AreLaid : ℕ → ℕ → ℕ → List ValueFraction → Type 0
AreLaid γ n m fractions = AreLaidTo γ n (homes_for n m) none_away all_vacant fractions

-- of a closed table: in the first k homes their fractions lie still, the others are empty; what those in a slot show is as the slot's word says
pub record AreHome {A : Type 0} (γ : ℕ) (sizes : Sizes) (k : ℕ) (closed : Closed ValueFraction A) : Type 0 where
  pub laid : AreLaidTo γ sizes.participants (homes_for sizes.participants sizes.slots)
      (λ i. away sizes.participants (full_at sizes (slots_items closed.words) i))
      (λ i. MatchesSlotWord (full_at sizes (slots_items closed.words) i)) (slots_items closed.slots)
  pub low : k ≤ slots_len closed.slots
  pub here : (j : ℕ) → j < k → slice_index_or (slots_filled closed.slots) j false ≡ true
  pub gone : (j : ℕ) → k ≤ j → slice_index_or (slots_filled closed.slots) j false ≡ false

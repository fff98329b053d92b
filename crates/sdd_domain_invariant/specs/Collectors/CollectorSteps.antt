-- What each step on private items makes of the seat
use Rattle.std.specs.Prelude.{◌≡◌, ◌≢◌, ◌⊎◌, ℕ, suc, Bool, [], ◌∷◌, drop, Some}
use base.Stored.{Gv}
use Rattle.sdd_shared_values.specs.SharedValues.{IsValueCode}
use Rattle.sdd_rights.specs.declared.views.CellKind.{CellKind}
use Rattle.sdd_rights.specs.declared.views.CellKind.TheVariants.{Raw, Collector}
use Rattle.sdd_rights.specs.declared.views.ShownValue.{ShownValue}
use Rattle.sdd_rights.specs.declared.views.View.{View}
use Rattle.sdd_domain_invariant.specs.Codes.{private_word, emptying_word, emptied_word, left_word}
use Rattle.sdd_domain_invariant.specs.Epoch.{IsLone}
use Rattle.sdd_domain_invariant.specs.Slots.SlotSteps.{Knew}
use Rattle.sdd_domain_invariant.specs.Collectors.CollectorWordSteps.{Collects, Reclaims, LeavesToClose, GivesPrivateBack, EmptiesSlot, EmptiesOwn, emptied_now, finds_left, empty_given_back, own_given_back, closing, closed_none}
use Rattle.sdd_domain_invariant.specs.Fractions.FractionsAtHome.{spare}
use Rattle.sdd_domain_invariant.specs.Slots.FilledInvariant.{newest}
use Rattle.sdd_domain_invariant.specs.Fractions.FractionSteps.{SeatState, CarriesAll, IsValue, IsNewest, gamma_of, places_of, moving, giving, forgetting}

-- it knows what an item shows that waits with it
abbrev pub recollecting : ShownValue → View → View
recollecting r v = record v { fractions = record v.fractions { waits = r ∷ v.fractions.waits } }

-- the right that it has is to this cell, and of this kind
abbrev pub with_right : ℕ → CellKind → View → View
with_right cell kind v = record v { cells = record { rights = record { cell = cell; kind = kind } ∷ [] } }

-- what a private item shows, which a lone participant moved in last
pub record ShowsPrivate (slot : ℕ) (r : ShownValue) (v : View) : Type 0 where
  pub of : r.slot ≡ slot
  pub code : IsValueCode r.value
  pub newest : IsLone v.epoch → newest slot v.fractions.filled ≡ Some r

-- each of these: the seat before, the number found (at a store the number stored), and the seat after
-- an item that waits is collected, and what was remembered of it is forgotten
abbrev pub CollectsOne : ℕ → ℕ → SeatState → ℕ → SeatState → Type 0
CollectsOne collector slot me y me' = (v : View) × Collects collector slot me.0 y v × (me'.0 ≡ forgetting slot v) × (me'.1 ≡ me.1)

-- a private item is claimed for its bag, and it is known what that shows; unless its collector's close came first
abbrev pub ReclaimsOne : ℕ → ℕ → SeatState → ℕ → SeatState → Type 0
ReclaimsOne collector slot me x me' = (v : View) × Reclaims collector slot me.0 x v × (me'.1 ≡ me.1)
    × (x ≡ private_word collector → (r : ShownValue) × ShowsPrivate slot r me.0 × (me'.0 ≡ recollecting r v))
    × (x ≢ private_word collector → me'.0 ≡ v)

-- one is left to the close that empties it
abbrev pub LeavesOneToClose : ℕ → ℕ → SeatState → ℕ → SeatState → Type 0
LeavesOneToClose collector slot me x me' = LeavesToClose collector slot me.0 x me'.0 × (me'.1 ≡ me.1)

-- the slot of one that was found emptied is free
abbrev pub GivesOnePrivateBack : ℕ → SeatState → ℕ → SeatState → Type 0
GivesOnePrivateBack slot me y me' = GivesPrivateBack slot me.0 y me'.0 × (me'.1 ≡ me.1)

-- it closes a collector, and has looked at no place yet: the right to it is of that kind; or none
abbrev pub ClosesOne : ℕ → SeatState → SeatState → Type 0
ClosesOne collector me me' = me' ≡ (with_right collector Collector (closing collector me.0), me.1)

abbrev pub ClosesNone : ℕ → SeatState → SeatState → Type 0
ClosesNone collector me me' = me' ≡ (with_right collector Raw (closed_none me.0), me.1)

-- a close claims what waits for its collector
abbrev pub EmptiesOne : ℕ → ℕ → SeatState → ℕ → SeatState → Type 0
EmptiesOne collector slot me x me' = EmptiesSlot collector slot me.0 x me'.0 × (me'.1 ≡ me.1)

-- one claims an item of its own bag so
abbrev pub EmptiesOwnOne : ℕ → ℕ → SeatState → ℕ → SeatState → Type 0
EmptiesOwnOne collector slot me x me' = EmptiesOwn collector slot me.0 x me'.0 × (me'.1 ≡ me.1)

-- the value of an item that it claimed so is to be moved out, so that all fractions in it are out; a lone participant moved this into the slot last
pub record TakesPrivate (slot : ℕ) (me me' : SeatState) : Type 0 where
  pub value : Gv
  pub view : me'.0 ≡ moving slot me.0
  pub fractions : CarriesAll (gamma_of me) slot (places_of me) (spare (places_of me)) (IsValue value) me.1 me'.1
  pub filled : IsLone me.0.epoch → (shared : Bool) × IsNewest slot shared value me.0

-- it was: all fractions in it go home, and its bag gives the slot back; or its bag has let go of it, and nothing goes home yet
abbrev pub EmptiedOne : ℕ → SeatState → ℕ → SeatState → Type 0
EmptiedOne slot me x me' = (x ≡ emptying_word → (me'.0 ≡ giving (emptied_now slot emptied_word me.0)) × (me'.1 ≡ drop (suc (places_of me)) me.1))
    × (x ≡ left_word → me' ≡ (finds_left me.0, me.1)) × ((x ≡ emptying_word) ⊎ (x ≡ left_word)) × Knew slot me.0 x

-- then its slot is free, and all fractions in it go home
abbrev pub GivesOneEmptyBack : ℕ → SeatState → ℕ → SeatState → Type 0
GivesOneEmptyBack slot me y me' = (me'.0 ≡ giving (empty_given_back slot y me.0)) × (me'.1 ≡ drop (suc (places_of me)) me.1)

-- an item of its own bag was moved out: its slot is free, and all fractions in it go home
abbrev pub GivesOneOwnBack : ℕ → SeatState → ℕ → SeatState → Type 0
GivesOneOwnBack slot me y me' = (me'.0 ≡ giving (own_given_back slot y me.0)) × (me'.1 ≡ drop (suc (places_of me)) me.1)

-- What a seat carries, and what each step that takes or gives fractions makes of it
use Rattle.std.specs.Prelude.{◌≡◌, ◌≢◌, ◌⊎◌, ℕ, zero, suc, ◌+◌, ◌-◌, ◌<◌, ◌≤◌, ◌==◌, not, Bool, true, List, [], ◌∷◌, ◌++◌, drop, Some, None}
use Rattle.std.specs.List.{filter}
use base.Stored.{Gv}
use Rattle.atomic_table.specs.Table.{Me}
use Rattle.sdd_shared_values.specs.ValueFractions.{FractionContent}
use Rattle.sdd_shared_values.specs.SharedValues.{IsValueCode, IsNoValueCode, content}
use Rattle.sdd_shared_values.specs.declared.value_fraction.ValueFraction.{ValueFraction}
use Rattle.sdd_rights.specs.declared.views.ShownValue.{ShownValue}
use Rattle.sdd_rights.specs.declared.views.CountsView.{CountsView}
use Rattle.sdd_rights.specs.declared.views.View.{View}
use Rattle.sdd_domain_invariant.specs.Slots.SlotSteps.{Knew, claimed, discarded, seeing, first, others, parted, joined, Retires, Defers, ClosesAll, GivesBack, one_less, one_more, taken_back}
use Rattle.sdd_rights.specs.Views.{owner_seat, at_rest, no_counts}
use Rattle.sdd_domain_invariant.specs.Epoch.EpochSteps.{ended}
use Rattle.sdd_domain_invariant.specs.Words.{slot_word}
use Rattle.sdd_domain_invariant.specs.Codes.{alive, counted, most_owners}
use Rattle.sdd_domain_invariant.specs.Epoch.{IsLone}
use Rattle.sdd_domain_invariant.specs.Slots.{Sees}
use Rattle.sdd_domain_invariant.specs.Fractions.FractionsAtHome.{CarriedFractions, fraction_at, share, spare, Has}
use Rattle.sdd_domain_invariant.specs.Slots.Records.{IsIn}
use Rattle.sdd_domain_invariant.specs.Slots.FilledInvariant.{newest}
use Rattle.sdd_domain_invariant.specs.Fractions.BankInvariant.{one_where}
use Rattle.sdd_domain_invariant.specs.Slots.KindsInvariant.{written}

abbrev pub SeatState : Type 0
SeatState = Me ValueFraction View

-- the first m fractions in the slot i, of which so many units are elsewhere, the last of them taken last, and then the rest
abbrev pub CarriesFirst : ℕ → ℕ → ℕ → ℕ → (Gv → Type 0) → CarriedFractions → ℕ → CarriedFractions → Type 0
CarriesFirst γ i n o Is rest zero xs = xs ≡ rest
CarriesFirst γ i n o Is rest (suc m) [] = ⊥
CarriesFirst γ i n o Is rest (suc m) (x ∷ xs) = (x.0 ≡ fraction_at n i m) × Has γ i (share n o m) Is x.1 × CarriesFirst γ i n o Is rest m xs

-- all fractions in the slot i, and then the rest
abbrev pub CarriesAll : ℕ → ℕ → ℕ → ℕ → (Gv → Type 0) → CarriedFractions → CarriedFractions → Type 0
CarriesAll γ i n o Is rest xs = CarriesFirst γ i n o Is rest (suc n) xs

-- a value that is shown, and it is this one
abbrev pub IsValue : Gv → Gv → Type 0
IsValue value g = IsValueCode g × (g ≡ value)

-- the fractions of the place q in the slots of these records, in this order, each of which shows what its record says
abbrev pub CarriesSeen : ℕ → ℕ → ℕ → List ShownValue → CarriedFractions → Type 0
CarriesSeen γ n q [] [] = Unit {0}
CarriesSeen γ n q [] (x ∷ xs) = ⊥
CarriesSeen γ n q (r ∷ records) [] = ⊥
CarriesSeen γ n q (r ∷ records) (x ∷ xs) = (x.0 ≡ fraction_at n r.slot q) × Has γ r.slot 1 (IsValue r.value) x.1 × CarriesSeen γ n q records xs

-- it moves the value of the slot from now on
abbrev pub moving : ℕ → View → View
moving slot v = record v { fractions = record v.fractions { moves = Some slot } }

-- it moves none
abbrev pub resting : View → View
resting v = record v { fractions = record v.fractions { moves = None } }

-- it made an item more
abbrev pub with_made : View → View
with_made v = record v { fractions = record v.fractions { counts = record v.fractions.counts { made = v.fractions.counts.made + 1 } } }

-- it has one of several owners more of a slot, which shows this
abbrev pub owning_more : ℕ → Gv → View → View
owning_more slot value v = record v { fractions = record v.fractions { owns = record { slot = slot; shared = true; value = value } ∷ v.fractions.owns } }

-- it gave one more back
abbrev pub with_gone : View → View
with_gone v = record v { fractions = record v.fractions { counts = record v.fractions.counts { gone = v.fractions.counts.gone + 1 } } }

-- it claims a slot, for an item that it makes
abbrev pub making : ℕ → ℕ → View → View
making slot y v = with_made (moving slot (claimed slot y v))

-- it gives one back, and moves no value any more
abbrev pub giving : View → View
giving v = with_gone (resting v)

-- it dropped one in its place, whose slot it gave back, and moves no value any more
abbrev pub dropping : View → View
dropping v = record v {
  fractions = record v.fractions {
    moves = None;
    counts = record v.fractions.counts { gone = v.fractions.counts.gone + 1; in_place = v.fractions.counts.in_place + 1 };
  };
}

-- its place has ended, and is counted
abbrev pub leaving : View → View
leaving v = record v {
  epoch = ended v.epoch;
  fractions = record v.fractions { counts = record v.fractions.counts { over = v.fractions.counts.over + 1 } };
}

-- it moved a value into a slot of its own, and knows what the slot shows; its owner may be one of several
abbrev pub telling : ℕ → Bool → Gv → View → View
telling slot shared value v = record v {
  fractions = record v.fractions {
    owns = record { slot = slot; shared = shared; value = value } ∷ v.fractions.owns;
    filled = record { slot = slot; shared = shared; value = value } ∷ v.fractions.filled;
  };
}

-- its owner of the slot has its unit
abbrev pub drawing : ℕ → View → View
drawing slot v = record v { slots = record v.slots { drawn = slot ∷ v.slots.drawn } }

-- the unit of the owner that drew last is in the bank again
abbrev pub undrawing : View → View
undrawing v = record v { slots = record v.slots { drawn = others v.slots.drawn } }

-- it knows of no slot of its own any more
abbrev pub untold : View → View
untold v = record v { fractions = record v.fractions { owns = [] } }

-- what it knew of its own slots it knows of items that wait with it
abbrev pub remembering : View → View
remembering v = record v { fractions = record v.fractions { owns = []; waits = v.fractions.owns ++ v.fractions.waits } }

-- the records of other slots
abbrev pub without_record : ℕ → List ShownValue → List ShownValue
without_record slot = filter (λ (r : ShownValue). not (r.slot == slot))

-- it knows no more what an item of this slot shows that waits with it
abbrev pub forgetting : ℕ → View → View
forgetting slot v = record v { fractions = record v.fractions { waits = without_record slot v.fractions.waits } }

-- a guard sees a slot, and what it shows
abbrev pub sighting : ℕ → Bool → Gv → View → View
sighting slot shared value v = record (seeing slot v) {
  fractions = record v.fractions { sees = record { slot = slot; shared = shared; value = value } ∷ v.fractions.sees };
}

-- nothing is seen any more
abbrev pub unsighted : View → View
unsighted v = record v { fractions = record v.fractions { sees = [] } }

-- the owner that it has goes, to a seat of its own, with what is known of it
abbrev pub parting : View → View
parting v = untold (parted v)

abbrev pub departing : View → View
departing v = record (owner_seat (first v.slots.owns)) { fractions = record (at_rest 0) { owns = v.fractions.owns } }

-- the owners that another seat knows come, with what it knows of them
abbrev pub regained : View → View → View
regained v w = record (joined v w) { fractions = record v.fractions { owns = w.fractions.owns ++ v.fractions.owns } }

-- what the participant knew of fractions and how many there are of each place
abbrev pub gamma_of : SeatState → ℕ
gamma_of me = me.0.fractions.gamma

abbrev pub places_of : SeatState → ℕ
places_of me = me.0.sizes.participants

-- each of these: the seat before, the number found (at a store the number stored), and the seat after
-- the claim of a slot whose word is old as long as it is free: then all fractions in it are out, and show that it is vacant; and it has a note of its word
abbrev pub ClaimsAll : ℕ → ℕ → ℕ → SeatState → ℕ → SeatState → Type 0
ClaimsAll slot old y me x me' =
    (x ≡ old → (me'.0 ≡ making slot y me.0) × CarriesAll (gamma_of me) slot (places_of me) 0 IsNoValueCode me.1 me'.1 × (written me'.0 slot ≡ y))
    × (x ≢ old → me' ≡ me) × Knew slot me.0 x

-- the value of an owned slot was moved in, and all fractions in it, which show it, go home with a unit each; the owner has its unit, and the bank the rest
abbrev pub FillsSlot : ℕ → Bool → Gv → SeatState → SeatState → Type 0
FillsSlot slot shared value me me' = (me'.0 ≡ resting (telling slot shared value (drawing slot me.0))) × (me'.1 ≡ drop (suc (places_of me)) me.1)

-- its owner's unit goes to the bank
abbrev pub EntersUnit : SeatState → SeatState → Type 0
EntersUnit me me' = (me'.0 ≡ undrawing me.0) × (me'.1 ≡ me.1)

-- of what it moved into the slot the newest is this
abbrev pub IsNewest : ℕ → Bool → Gv → View → Type 0
IsNewest slot shared value v = newest slot v.fractions.filled ≡ Some (record { slot = slot; shared = shared; value = value })

-- the value of an item that nobody sees is to be moved out, so that all fractions in it are out: they show what was remembered of it, which is forgotten
-- then; and a lone participant moved this into the slot last
pub record TakesOut (slot : ℕ) (me me' : SeatState) : Type 0 where
  pub value : Gv
  pub view : me'.0 ≡ moving slot (forgetting slot me.0)
  pub fractions : CarriesAll (gamma_of me) slot (places_of me) (spare (places_of me)) (IsValue value) me.1 me'.1
  pub remembered : IsIn me.0.fractions.waits slot value
  pub filled : IsLone me.0.epoch → (shared : Bool) × IsNewest slot shared value me.0

-- the same of an item whose slot is held: the fractions show what its owner knows, which is forgotten then
pub record TakesHeld (slot : ℕ) (me me' : SeatState) : Type 0 where
  pub value : Gv
  pub view : me'.0 ≡ moving slot (untold me.0)
  pub fractions : CarriesAll (gamma_of me) slot (places_of me) (spare (places_of me)) (IsValue value) me.1 me'.1
  pub told : IsIn me.0.fractions.owns slot value

-- the content is all that the bank had of the slot
abbrev pub IsDeposit : ℕ → SeatState → FractionContent → Type 0
IsDeposit slot me l = l ≡ content (gamma_of me) slot l.lifetime l.shown (spare (places_of me))

-- the item of a slot whose last owner goes waits from now on, and what that knew is remembered
abbrev pub RetiresOne : ℕ → SeatState → ℕ → SeatState → Type 0
RetiresOne slot me y me' = (v : View) × Retires slot me.0 y v × (me'.0 ≡ remembering v) × (me'.1 ≡ me.1)

-- an owner that is counted goes: the last one's item waits from now on, and what it knew is remembered; else other owners stay
abbrev pub ReleasesOne : ℕ → SeatState → ℕ → SeatState → Type 0
ReleasesOne slot me x me' = (counted x ≡ 1) × (0 < alive x) × (alive x ≡ 1 → RetiresOne slot me (x - 1) me')
    × (alive x ≢ 1 → me' ≡ (untold (one_less slot (x - 1) me.0), me.1)) × Knew slot me.0 x

-- an owner that is counted goes beside others, where its slot's word is still the one that was found
abbrev pub LeavesOne : ℕ → ℕ → SeatState → ℕ → SeatState → Type 0
LeavesOne word slot me x me' = (counted x ≡ 1) × (0 < alive x) × (x ≡ word → me' ≡ (untold (one_less slot (word - 1) me.0), me.1))
    × (x ≢ word → me' ≡ me) × Knew slot me.0 x

-- an owner more comes, beside one of several whose slot shows this; where the count was at its bound or past it, it is to be taken back
abbrev pub AddsOne : Gv → ℕ → SeatState → ℕ → SeatState → Type 0
AddsOne value slot me x me' = (counted x ≡ 1) × (0 < alive x)
    × (alive x < most_owners → me' ≡ (owning_more slot value (one_more slot (x + 1) None me.0), me.1))
    × (most_owners ≤ alive x → me' ≡ (owning_more slot value (one_more slot (x + 1) (Some slot) me.0), me.1)) × Knew slot me.0 x

-- nobody moves the value of the slot, as far as it knows: a guard of its own sees the slot, or no other participant may be
abbrev pub IsStill : ℕ → View → Type 0
IsStill slot v = ((value : Gv) × IsIn v.fractions.sees slot value) ⊎ IsLone v.epoch

-- an item of whose owners there are several shows this: each sight of it says so, and a lone participant moved it in last
pub record ShowsSeen (slot : ℕ) (value : Gv) (v : View) : Type 0 where
  pub code : IsValueCode value
  pub seen : (g : Gv) → IsIn v.fractions.sees slot g → value ≡ g
  pub newest : IsLone v.epoch → IsNewest slot true value v

-- one of several owners comes of an item whose value nobody moves, where its slot's word is still the one that was found
abbrev pub AddsSeen : ℕ → ℕ → SeatState → ℕ → SeatState → Type 0
AddsSeen word slot me x me' =
    (x ≡ word → (value : Gv) × ShowsSeen slot value me.0 × (me' ≡ (owning_more slot value (one_more slot (word + 1) None me.0), me.1)))
    × (x ≢ word → me' ≡ me) × Knew slot me.0 x

-- it is taken back
abbrev pub TakesOneBack : ℕ → SeatState → ℕ → SeatState → Type 0
TakesOneBack slot me x me' = (me' ≡ (untold (taken_back slot (x - 1) me.0), me.1)) × Knew slot me.0 x

-- the owner of a slot has its unit from now on, which is drawn from the bank, and shows what is known of the slot
abbrev pub DrawsUnit : ℕ → SeatState → FractionContent → SeatState → Type 0
DrawsUnit slot me l me' = (me'.0 ≡ drawing slot me.0) × (me'.1 ≡ me.1)
    × ((value : Gv) → IsIn me.0.fractions.owns slot value → l ≡ content (gamma_of me) slot l.lifetime value 1)

-- it was moved out: the slot is free, and all fractions in it go home
abbrev pub GivesAll : ℕ → SeatState → ℕ → SeatState → Type 0
GivesAll slot me y me' = (v : View) × GivesBack slot me.0 y v × (me'.0 ≡ giving v) × (me'.1 ≡ drop (suc (places_of me)) me.1)

-- a job's place is claimed, whose word is old as long as it is free, and the job waits there: no fractions are taken
abbrev pub DefersJob : ℕ → ℕ → ℕ → SeatState → ℕ → SeatState → Type 0
DefersJob place old y me x me' = (me'.1 ≡ me.1) × Defers place old y me.0 x me'.0

-- the place is free, in which one job waited: none are given, and none is counted
abbrev pub GivesPlace : ℕ → SeatState → ℕ → SeatState → Type 0
GivesPlace place me y me' = (me'.1 ≡ me.1) × GivesBack place me.0 y me'.0

-- the item of a slot that was held has gone at once: the slot is free, and all fractions in it go home
abbrev pub DiscardsAll : ℕ → SeatState → ℕ → SeatState → Type 0
DiscardsAll slot me y me' = (me'.0 ≡ dropping (discarded slot y me.0)) × (me'.1 ≡ drop (suc (places_of me)) me.1)

-- a guard sees a slot beside its owner, who knows what it shows: it has the fraction of its place out, if it didn't before
abbrev pub SeesOwned : ℕ → Bool → Gv → SeatState → SeatState → Type 0
SeesOwned slot shared value me me' = (Sees me.0 slot → (me' ≡ me) × IsIn me.0.fractions.sees slot value)
    × (¬ (Sees me.0 slot) → (y : ValueFraction) × Has (gamma_of me) slot 1 (IsValue value) y
    × (me' ≡ (sighting slot shared value me.0, (fraction_at (places_of me) slot me.0.epoch.place, y) ∷ me.1)))

-- what the seat of a slot's owner tells is what this one moved into the slot last, and by the words that it knows the slot has an owner, which is one
-- of several that there may be, or not
pub record IsRecalled (slot : ℕ) (shared : Bool) (value : Gv) (v : View) : Type 0 where
  pub newest : IsNewest slot shared value v
  pub alive : 0 < alive (written v slot)
  pub kind : counted (written v slot) ≡ one_where shared

-- beside a slot's owner a lone participant learns what it knows of the slot, and nothing changes
abbrev pub LearnsOwned : ℕ → Bool → Gv → SeatState → SeatState → Type 0
LearnsOwned slot shared value me me' = (me' ≡ me) × (IsLone me.0.epoch → IsRecalled slot shared value me.0)

-- the last guard is closed: all that it had goes home
abbrev pub ClosesHome : SeatState → ℕ → SeatState → Type 0
ClosesHome me x me' = (v : View) × ClosesAll me.0 x v × (me'.0 ≡ unsighted v) × (me'.1 ≡ [])

-- its place ends
abbrev pub EndsAll : View → ℕ → View → Type 0
EndsAll v x w = w ≡ leaving v

-- the counts go to a seat of their own, once the place has ended
abbrev pub uncounting : View → View
uncounting v = record v { fractions = record v.fractions { counts = no_counts } }

abbrev pub counts_seat : CountsView → View
counts_seat c = record (owner_seat []) { fractions = record (at_rest 0) { counts = c } }

abbrev pub counts_of : View → View
counts_of v = counts_seat v.fractions.counts

-- the counts of another seat come
abbrev pub counts_added : CountsView → CountsView → CountsView
counts_added a b = record {
  made = a.made + b.made;
  gone = a.gone + b.gone;
  in_place = a.in_place + b.in_place;
  over = a.over + b.over;
  registered = a.registered + b.registered;
}

abbrev pub counting : View → View → View
counting v w = record v { fractions = record v.fractions { counts = counts_added v.fractions.counts w.fractions.counts } }

-- a step on the word i tells R of the slot whose word it is
abbrev pub OfSlot : (ℕ → SeatState → ℕ → SeatState → Type 0) → ℕ → SeatState → ℕ → SeatState → Type 0
OfSlot R i me x me' = (slot : ℕ) → i ≡ slot_word me.0.sizes slot → R slot me x me'

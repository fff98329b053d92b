-- What holds of a participant between two calls
use Rattle.std.specs.Prelude.{◌≡◌, ◌↔◌, ℕ, ◌+◌, ◌^◌, ◌<◌, ◌≤◌, List, [], Option, None, IsSome, length, map, slice_index_or, false, if◌then◌else◌}
use Rattle.atomic_table.specs.declared.shared.Seat.{Seat}
use Rattle.sdd_participants.specs.declared.participant.Participant.{Participant}
use Rattle.sdd_participants.specs.EpochState.{is_open, no_garbage}
use Rattle.sdd_rights.specs.declared.fraction.Fraction.{Fraction}
use Rattle.sdd_values.specs.declared.read_sections.SectionState.{SectionState}
use Rattle.sdd_values.specs.declared.read_sections.SectionState.TheVariants.{Closed, Open}
use Rattle.sdd_rights.specs.declared.views.EpochView.{EpochView}
use Rattle.sdd_rights.specs.declared.views.View.{View}
use Rattle.sdd_rights.specs.Views.{no_rights}
use Rattle.sdd_domain_invariant.specs.Epoch.{IsClosed, IsOpen, Scans, IsLone}
use Rattle.sdd_rights.specs.declared.views.ShownValue.{ShownValue}
use Rattle.sdd_rights.specs.declared.views.SlotsView.{SlotsView}
use Rattle.sdd_rights.specs.declared.views.FractionsView.{FractionsView}
use Rattle.sdd_domain_invariant.specs.Sums.{total}
use Rattle.sdd_domain_invariant.specs.Slots.{waits_in, items_at}
use Rattle.sdd_shared_values.specs.declared.value_fraction.ValueFraction.{ValueFraction}
use Rattle.sdd_shared_values.specs.ValueFractions.{AllFreeFor}
use Rattle.sdd_shared_values.specs.CarriedFractions.{contents, plain}
use Rattle.sdd_domain_invariant.specs.Fractions.FractionsAtHome.{CarriedFractions}
use Rattle.sdd_domain_invariant.specs.Slots.Records.{slot_shown}
use Rattle.sdd_domain_invariant.specs.Fractions.FractionSteps.{CarriesSeen}
use Rattle.sdd_domain_steps.specs.SeenSlots.{IsOnce}
use Rattle.sdd_atomics.specs.TableFacts.{TableFacts, id_of, sizes_of, gamma_of, places_of, slots_of, most_waiting_of}
use Rattle.sdd_domain_steps.specs.DueItems.{Pending}
use Rattle.sdd_domain_steps.specs.InBags.{AreInBags, KnownWaiting, TellsCollectors}
use Rattle.sdd_atomics.specs.DomainSeat.{view, epoch, slots, Knows}

-- it has published its count; what it knows is the count at that publish or the next
pub record IsNear (v : EpochView) : Type 0 where
  pub count : v.count ≤ v.since
  pub since : v.since ≤ v.known
  pub known : v.known ≤ v.since + 1

-- no slot is held, no count is raised past its bound, and no owner is with the participant itself: each is a seat of its own. It looks at no place unless it
-- closes a collector, empties no slot, and found none emptied
pub record IsQuiet (v : SlotsView) : Type 0 where
  pub owns : v.owns ≡ []
  pub drawn : v.drawn ≡ []
  pub holds : v.holds ≡ None
  pub looked : v.closes ≡ None → v.looked ≡ 0
  pub over : v.over ≡ None
  pub emptied : v.emptied ≡ []
  pub empties : v.empties ≡ None
  pub left : v.left ≡ false

-- what is known of what slots show: of those that the guards see, one value for each
pub record SeesOnce (fractions : FractionsView) (slots : SlotsView) : Type 0 where
  pub owns : fractions.owns ≡ []
  pub sees : map slot_shown fractions.sees ≡ slots.sees
  pub once : IsOnce fractions.sees

-- the fractions that are out: one in each slot that the guards see, which shows what is known
unfoldable pub CarriesSeenOnly : ℕ → ℕ → ℕ → List ShownValue → CarriedFractions → Type 0
CarriesSeenOnly γ n p sees xs = CarriesSeen γ n p sees (plain xs)

-- those are lent to the section t at most
unfoldable pub AreLentTo : ℕ → CarriedFractions → Type 0
AreLentTo t xs = AllFreeFor t (contents xs)

-- the table, the place, what it keeps of its own, and its seat
module _ (b : TableFacts) (p : ℕ) (own : Participant) (seat : Seat ValueFraction View) where
  pub record IsBetweenCalls : Type 0 where
    pub home : seat.table_id ≡ id_of b
    pub carries : CarriesSeenOnly (gamma_of b) (places_of b) p (view seat).fractions.sees seat.me.1
    pub seen : SeesOnce (view seat).fractions (slots seat)
    pub unseen : own.guards ≡ 0 → (view seat).fractions.sees ≡ []
    pub rests : (view seat).fractions.moves ≡ None
    pub all : (epoch seat).all ≡ places_of b
    pub place : (epoch seat).place ≡ p
    pub inside : p < places_of b
    pub count : (epoch seat).count ≡ own.found
    pub closed : own.guards ≡ 0 → IsClosed (epoch seat)
    pub opened : 0 < own.guards → IsOpen (epoch seat)
    pub near : 0 < own.guards → IsNear (epoch seat)
    pub lone : 0 < own.guards → IsLone (epoch seat) → (epoch seat).known ≡ (epoch seat).count
    pub free : ¬ (Scans (epoch seat))
    pub knows : Knows b seat
    pub found : (epoch seat).found ≡ own.found
    pub quiet : IsQuiet (slots seat)
    pub pledges : (view seat).pledges.own ≡ []
    pub rights : (view seat).cells ≡ no_rights
    pub waiting : (i : ℕ) → 0 < items_at i (view seat) → i < most_waiting_of b
    pub room : own.bags.room ≡ most_waiting_of b
    pub pace : own.countdown ≤ no_garbage
    pub idle : own.countdown ≡ no_garbage → own.bags.waiting ≡ []

-- the part of a section that the participant keeps: each of its open guards has one unit more, and the section is open exactly while one is
pub record IsSectionOf (own : Participant) (share : Fraction SectionState) : Type 0 where
  pub units : share.units + own.guards ≡ 2 ^ 63
  pub kind : share.kind ≡ (if is_open own then Open else Closed)

-- what is in the bags, and what was taken out of them and is due, is what its view knows to wait; there is room for as much as waits, and it looks for slots
-- of the table; and the participant has a job exactly for each place where one waits with it, and a
-- collector exactly for each slot whose item waits for that one
pub record AgreesWithView {J : Type 0} (b : TableFacts) (own : Participant) (pending : Pending) (known_slots : ℕ) (table : List (Option J))
    (collectors : List (Option ℕ)) (known : KnownWaiting) : Type 0 where
  pub bags : AreInBags (slots_of b) known own.bags.waiting pending.items
  pub large : own.bags.room ≤ pending.room
  pub slots : known_slots ≡ slots_of b
  pub told : TellsCollectors (slots_of b) collectors known.private
  pub places : length table ≡ (sizes_of b).jobs
  pub jobs : (j : ℕ) → j < (sizes_of b).jobs → IsSome (slice_index_or table j None) ↔ (0 < total (waits_in (slots_of b + j)) known.plain)

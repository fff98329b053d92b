-- What waits with a participant, as its rule and as its bags have it
use Rattle.std.specs.Prelude.{◌≡◌, ◌≢◌, ◌⊎◌, ℕ, ◌+◌, ◌-◌, ◌≤◌, ◌==◌, Bool, true, false, List, [], map, filter, not, nat_lt, count_by, if◌then◌else◌}
use Rattle.sdd_participants.specs.declared.waiting.LimboEntry.{LimboEntry}
use Rattle.sdd_participants.specs.declared.waiting.LimboEntry.TheVariants.{Item, Job}
use Rattle.sdd_participants.specs.declared.participant.Participant.{Participant}
use Rattle.sdd_participants.specs.Waiting.{Waiting}
use Rattle.sdd_participants.specs.EpochState.{due_next, rotated, settled}
use Rattle.atomic_table.specs.declared.shared.Seat.{Seat}
use Rattle.sdd_rights.specs.declared.views.PrivateItem.{PrivateItem}
use Rattle.sdd_rights.specs.declared.views.SlotsView.{SlotsView}
use Rattle.sdd_rights.specs.declared.views.WaitingItem.{WaitingItem}
use Rattle.sdd_rights.specs.declared.views.View.{View}
use Rattle.sdd_domain_invariant.specs.Epoch.{IsLone}
use Rattle.sdd_domain_invariant.specs.Slots.{items_at}
use Rattle.sdd_domain_invariant.specs.Fractions.FractionSteps.{with_gone, forgetting}
use Rattle.sdd_domain_invariant.specs.Slots.SlotSteps.{given_back, older, older_private}

-- what waits, in the bags: the item of a slot, or behind the slots, of which there are so many, the job of a place
abbrev pub what_of : ℕ → WaitingItem → LimboEntry
what_of slots x = if nat_lt x.slot slots then Item x.slot else Job (x.slot - slots)

-- by which number the rule has it
abbrev pub number_in : ℕ → LimboEntry → ℕ
number_in slots (Item slot) = slot
number_in slots (Job place) = slots + place

abbrev pub waiting_of : ℕ → WaitingItem → Waiting
waiting_of slots x = record { what = what_of slots x; seen = x.changes }

abbrev pub is_item : LimboEntry → Bool
is_item (Item slot) = true
is_item (Job place) = false

-- how much of it are items
abbrev pub items_in : List LimboEntry → ℕ
items_in = count_by is_item

-- it has seen three changes
abbrev pub is_ripe : WaitingItem → Bool
is_ripe x = nat_lt 2 x.changes

abbrev pub ripe : List WaitingItem → List WaitingItem
ripe = filter is_ripe

abbrev pub unripe : List WaitingItem → List WaitingItem
unripe = filter (λ (x : WaitingItem). not (is_ripe x))

-- what waits by the rule after an opening at this count: if the participant had found another before, each item has seen one change more
abbrev pub aged_at : ℕ → Participant → List WaitingItem → List WaitingItem
aged_at count own xs = if own.found == count then xs else map older xs

-- and so has each private item
abbrev pub aged_privates_at : ℕ → Participant → List PrivateItem → List PrivateItem
aged_privates_at count own xs = if own.found == count then xs else map older_private xs

abbrev pub aged_slots_at : ℕ → Participant → SlotsView → SlotsView
aged_slots_at count own s = record s { waits = aged_at count own s.waits; privates = aged_privates_at count own s.privates }

-- what such an opening takes out of the bags
abbrev pub due_at : ℕ → Participant → List LimboEntry
due_at count own = if own.found == count then [] else due_next own

-- what the participant keeps of its own then, but for the guard
abbrev pub arrived_at : ℕ → Participant → Participant
arrived_at count own = if own.found == count then own else rotated count own

-- and what it keeps where that is not all yet: another count was found, and something waited; or where it is: no other count was found, or nothing waited
pub record HasArrived (count : ℕ) (goes_on : Bool) (old new : Participant) : Type 0 where
  pub change : goes_on ≡ true → (old.found ≢ count) × (new ≡ arrived_at count old)
  pub over : goes_on ≡ false → ((old.found ≡ count) × (new ≡ arrived_at count old))
      ⊎ ((old.found ≢ count) × (old.bags.waiting ≡ []) × (new ≡ settled (arrived_at count old)))

-- the slot is free, in which one item waited, which is remembered no more, and is counted as gone
abbrev pub GivesOneBack : ℕ → View → ℕ → View → Type 0
GivesOneBack slot v y w = (w ≡ with_gone (given_back slot y (forgetting slot v))) × (items_at slot v ≡ 1)

-- the seat after an outermost opening that found a count
pub record Arrives {S : Type 0} (count : ℕ) (own : Participant) (s s' : Seat S View) : Type 0 where
  pub table : s'.table_id ≡ s.table_id
  pub number : s'.id ≡ s.id
  pub others : s'.me.1 ≡ s.me.1
  pub sizes : s'.me.0.sizes ≡ s.me.0.sizes
  pub fractions : s'.me.0.fractions ≡ s.me.0.fractions
  pub knew : s.me.0.epoch.known ≤ count
  pub knows : count ≤ s'.me.0.epoch.since
  pub known : s'.me.0.epoch.known ≡ s'.me.0.epoch.since
  pub lone : IsLone s.me.0.epoch → (count ≡ s.me.0.epoch.known) × (s'.me.0.epoch.since ≡ s.me.0.epoch.known)
  pub slots : s'.me.0.slots ≡ aged_slots_at count own s.me.0.slots
  pub words : s'.me.0.words ≡ s.me.0.words

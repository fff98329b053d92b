-- A participant's core of a domain as its callers see it, and what each call does to it
use Rattle.std.specs.Prelude.{◌≡◌, ◌≢◌, ◌⊎◌, ℕ, ◌+◌, ◌^◌, ◌<◌, ◌≤◌, Bool, Some, None, true, false, List, [], ◌∷◌, ◌++◌, replicate, slice_index, slice_set, ◌-◌}
use base.Stored.{Gv}
use Rattle.atomic_table.specs.Seated.{TableId}
use Rattle.sdd_core.specs.declared.limits.Limits.{Limits}
use Rattle.sdd_participants.specs.declared.participant.Participant.{Participant}
use Rattle.sdd_participants.specs.Slab.{Entries, entry_at, with_entry, without_entry}
use Rattle.sdd_participants.specs.declared.waiting.LimboEntry.{LimboEntry}
use Rattle.sdd_participants.specs.declared.waiting.LimboEntry.TheVariants.{Item, Job}
use Rattle.sdd_participants.specs.EpochState.{newcomer, nested, settled, awaiting}
use Rattle.sdd_space.specs.Guard.{ReaderId}
use Rattle.sdd_world_model.specs.ParticipantChanges.{closed_with}
use Rattle.sdd_participants.specs.declared.tally.Tally.{Tally}
use Rattle.sdd_participants.specs.Tally.{no_items, one_made, one_reclaimed, one_in_place}
use Rattle.sdd_rights.specs.declared.views.Sizes.{Sizes}
use Rattle.sdd_rights.specs.declared.views.ShownValue.{ShownValue}
use Rattle.sdd_rights.specs.declared.views.SlotsView.{SlotsView}
use Rattle.sdd_domain_invariant.specs.Codes.{free_word, waiting_word, claimed_word, retired_word, most_owners, alive, counted}
use Rattle.sdd_domain_invariant.specs.Sums.{times, total}
use Rattle.sdd_domain_invariant.specs.Slots.{waits_in}
use Rattle.sdd_rights.specs.Views.{bare}
use Rattle.sdd_domain_invariant.specs.Slots.SlotSteps.{blank, behind, retired_now, without_item}
use Rattle.sdd_domain_invariant.specs.Collectors.{private_in}
use Rattle.sdd_domain_invariant.specs.Collectors.CollectorWordSteps.{without_private}
use Rattle.sdd_domain_invariant.specs.Cells.CellWordSteps.{pointer_behind}
use Rattle.sdd_domain_invariant.specs.Slots.Records.{IsIn}
use Rattle.sdd_domain_invariant.specs.Slots.FilledInvariant.{newest}
use Rattle.sdd_domain_invariant.specs.Fractions.BankInvariant.{one_where}
use Rattle.sdd_domain_steps.specs.WaitingItems.{aged_slots_at, due_at, arrived_at}

-- the domain, the ghost map of its values' places, its limits, the place, whose guards are the participant's, what it keeps of its own, the greatest count that
-- it knows, the global count at its last publish (0 before the first), what it made and reclaimed, how many of each its domain has,
-- what it knows of slots, what those show that its guards see, what it moved into slots, the newest first, the words that it knows if it is lone,
-- what the opening of a guard has still to reclaim, the jobs that it deferred and that wait, each at its place of the table of jobs, and for which collector
-- the item of each slot waits with it, where it does
pub record LocalState (J : Type 0) : Type 0 where
  pub home : TableId
  pub gamma : ℕ
  pub limits : Limits
  pub place : ℕ
  pub reader : ReaderId
  pub own : Participant
  pub known : ℕ
  pub since : ℕ
  pub tally : Tally
  pub sizes : Sizes
  pub slots : SlotsView
  pub shown : List ShownValue
  pub filled : List ShownValue
  pub words : List ℕ
  pub due : List LimboEntry
  pub jobs : Entries J
  pub collectors : Entries ℕ

-- no other participant may be
abbrev pub IsLone : {J : Type 0} → LocalState J → Type 0
IsLone m = m.limits.participants ≡ 1

-- something waits with it
abbrev pub waits : {J : Type 0} → LocalState J → Bool
waits m = elim (m.own.bags.waiting) [ [] ↦ false | x ∷ xs ↦ true ]

-- a guard is open
abbrev pub HasOpenGuard : {J : Type 0} → LocalState J → Type 0
HasOpenGuard m = 0 < m.own.guards

-- one guard more is within the limit
abbrev pub CanNest : {J : Type 0} → LocalState J → Type 0
CanNest m = m.own.guards < m.limits.nesting

-- it has just registered with this domain, as the only reader of a home of its own; where it is lone, the count is 0 then, and all is free
pub record IsNew {J : Type 0} (domain : TableId) (gamma : ℕ) (most : Limits) (m : LocalState J) : Type 0 where
  pub home : m.home ≡ domain
  pub gamma_is : m.gamma ≡ gamma
  pub limits : m.limits ≡ most
  pub place : m.place < most.participants
  pub reader : (m.reader.home.size ≡ 1) × (m.reader.number ≡ 0)
  pub own : m.own ≡ newcomer (most.slots + most.jobs)
  pub since : m.since ≡ 0
  pub lone : IsLone m → m.known ≡ 0
  pub tally : m.tally ≡ no_items
  pub sizes : (m.sizes.participants ≡ most.participants) × (m.sizes.slots ≡ most.slots) × (m.sizes.jobs ≡ most.jobs) × (m.sizes.cells ≡ most.cells)
  pub slots : m.slots ≡ bare
  pub shown : m.shown ≡ []
  pub filled : m.filled ≡ []
  pub words : m.words ≡ blank m.sizes
  pub due : m.due ≡ []
  pub jobs : m.jobs ≡ replicate most.jobs None
  pub collectors : m.collectors ≡ replicate most.slots None

-- an outermost opening finds a count, which is at least the greatest that was known; where the participant is lone it is that one.
-- What has seen three changes then is due
pub record IsEntered {J : Type 0} (count : ℕ) (old new : LocalState J) : Type 0 where
  pub member : new ≡ record old {
    own = nested (arrived_at count old.own);
    known = new.since;
    since = new.since;
    slots = aged_slots_at count old.own old.slots;
    due = due_at count old.own;
  }
  pub knew : old.known ≤ count
  pub knows : count ≤ new.since
  pub lone : IsLone old → (count ≡ old.known) × (new.since ≡ old.known)

-- after such an opening something is to be reclaimed or decided, where it found another count and something waited; else nothing is: no other count was
-- found, or nothing waited
pub record GoesOn {J : Type 0} (count : ℕ) (goes_on : Bool) (old entered new : LocalState J) : Type 0 where
  pub change : goes_on ≡ true → (old.own.found ≢ count) × (new ≡ entered)
  pub over : goes_on ≡ false → ((old.own.found ≡ count) × (new ≡ entered))
      ⊎ ((old.own.found ≢ count) × (entered.due ≡ []) × (new ≡ record entered { own = settled entered.own }))
  pub idle : goes_on ≡ false → old.own.found ≢ count → old.own.bags.waiting ≡ []

-- the item of the slot was due before all others, and its value, which shows this, was moved out; the slot is free. A lone participant moved that
-- value in
pub record Reclaims {J : Type 0} (slot : ℕ) (value : Gv) (old new : LocalState J) : Type 0 where
  pub inside : slot < old.limits.slots
  pub first : old.due ≡ Item slot ∷ new.due
  pub member : new ≡ record old {
    tally = one_reclaimed old.tally;
    slots = record old.slots { waits = without_item slot old.slots.waits; privates = without_private slot old.slots.privates };
    words = slice_set old.words (behind old.sizes slot) (free_word 0);
    due = new.due;
    collectors = without_entry old.collectors slot;
  }
  pub once : total (waits_in slot) old.slots.waits + total (private_in slot) old.slots.privates ≡ 1
  pub lone : IsLone old → (shared : Bool) × (newest slot old.filled ≡ Some (record { slot = slot; shared = shared; value = value }))

-- the number of a job's place, which comes after those of the slots
abbrev pub place_number : {J : Type 0} → LocalState J → ℕ → ℕ
place_number m place = m.limits.slots + place

-- the job of the place was due before all others, and this is the one that was taken out; the place is free
pub record TakesJob {J : Type 0} (place : ℕ) (job : J) (old new : LocalState J) : Type 0 where
  pub inside : place < old.limits.jobs
  pub first : old.due ≡ Job place ∷ new.due
  pub there : entry_at old.jobs place ≡ Some job
  pub member : new ≡ record old {
    slots = record old.slots { waits = without_item (place_number old place) old.slots.waits };
    words = slice_set old.words (behind old.sizes (place_number old place)) (free_word 0);
    due = new.due;
    jobs = without_entry old.jobs place;
  }
  pub once : total (waits_in (place_number old place)) old.slots.waits ≡ 1

-- a guard is closed; without an open one nothing happens. The last close shows nothing any more, and at countdown 0 scans, which may
-- raise the count, to one more than it was at the publish at most; where the participant is lone the scan does, but at the last count
pub record GuardCloses {J : Type 0} (old new : LocalState J) : Type 0 where
  pub member : new ≡ record old { own = closed_with false old.own; known = new.known; slots = new.slots; shown = new.shown }
  pub unseen : old.own.guards ≡ 1 → (new.slots ≡ record old.slots { sees = [] }) × (new.shown ≡ [])
  pub seen : old.own.guards ≢ 1 → (new.slots ≡ old.slots) × (new.shown ≡ old.shown)
  pub knows : old.known ≤ new.known
  pub near : HasOpenGuard old → new.known ≤ old.since + 1
  pub quiet : (old.own.guards ≢ 1) ⊎ (old.own.countdown ≢ 0) → new.known ≡ old.known
  pub raised : IsLone old → old.own.guards ≡ 1 → old.own.countdown ≡ 0 → old.known + 1 < 2 ^ 64 → new.known ≡ old.known + 1
  pub last : IsLone old → old.own.guards ≡ 1 → old.own.countdown ≡ 0 → old.known + 1 ≡ 2 ^ 64 → new.known ≡ old.known
  pub few : IsLone old → old.own.guards ≡ 1 → old.known < 2 ^ 64

-- a count that is told is at least the greatest that was known, and known from then on;
-- under a guard it is the one at the guard's publish or the next, and the greatest that was known or the next
pub record IsTold {J : Type 0} (count : ℕ) (old new : LocalState J) : Type 0 where
  pub member : new ≡ record old { known = count }
  pub knew : old.known ≤ count
  pub guarded : HasOpenGuard old → (old.since ≤ count) × (count ≤ old.since + 1)
  pub near : HasOpenGuard old → (count ≡ old.known) ⊎ (count ≡ old.known + 1)
  pub lone : IsLone old → count ≡ old.known

-- the word of a slot, as a lone participant knows it
abbrev pub word_of : {J : Type 0} → LocalState J → ℕ → ℕ
word_of m slot = slice_index m.words (behind m.sizes slot)

-- the word of a cell, as a lone participant knows it
abbrev pub cell_word_of : {J : Type 0} → LocalState J → ℕ → ℕ
cell_word_of m cell = slice_index m.words cell

-- the word of a cell's pointer, as a lone participant knows it
abbrev pub pointer_word_of : {J : Type 0} → LocalState J → ℕ → ℕ
pointer_word_of m cell = slice_index m.words (pointer_behind m.sizes cell)

-- by the words that a lone participant knows the slot is free
abbrev pub IsFree : {J : Type 0} → LocalState J → ℕ → Type 0
IsFree m slot = word_of m slot ≡ free_word 0

-- by what a lone participant knows the slot has an owner, who is one of several or not, and shows this
pub record KnowsOwner {J : Type 0} (m : LocalState J) (slot : ℕ) (shared : Bool) (value : Gv) : Type 0 where
  pub newest : newest slot m.filled ≡ Some (record { slot = slot; shared = shared; value = value })
  pub alive : 0 < alive (word_of m slot)
  pub kind : counted (word_of m slot) ≡ one_where shared

-- a slot that was free has an item, made by it, which shows this; its owner may be one of several
pub record MakesAt {J : Type 0} (slot : ℕ) (shared : Bool) (value : Gv) (old new : LocalState J) : Type 0 where
  pub inside : slot < old.limits.slots
  pub member : new ≡ record old {
    tally = one_made old.tally;
    filled = record { slot = slot; shared = shared; value = value } ∷ old.filled;
    words = slice_set old.words (behind old.sizes slot) (claimed_word shared);
  }
  pub lone : IsLone old → IsFree old slot

-- its guards see the slot
abbrev pub GuardsSee : {J : Type 0} → LocalState J → ℕ → Type 0
GuardsSee m slot = 0 < times slot m.slots.sees

-- its guards see a slot, if they didn't before, which shows this
pub record LooksAt {J : Type 0} (slot : ℕ) (shared : Bool) (value : Gv) (old new : LocalState J) : Type 0 where
  pub seen : GuardsSee old slot → (new ≡ old) × IsIn old.shown slot value
  pub unseen : ¬ (GuardsSee old slot) → new ≡ record old {
    slots = record old.slots { sees = slot ∷ old.slots.sees };
    shown = record { slot = slot; shared = shared; value = value } ∷ old.shown;
  }

-- no slot is free
abbrev pub IsUsedUp : {J : Type 0} → LocalState J → Type 0
IsUsedUp m = (slot : ℕ) → slot < m.limits.slots → ¬ (IsFree m slot)

-- the item of a slot waits with it from now on, retired at the count of this moment, as its last owner has gone, which was one of several or not
pub record RetiresAt {J : Type 0} (slot : ℕ) (shared : Bool) (count : ℕ) (old new : LocalState J) : Type 0 where
  pub member : new ≡ record old {
    own = awaiting (Item slot) old.own;
    known = count;
    slots = record old.slots { waits = old.slots.waits ++ retired_now slot count ∷ [] };
    words = slice_set old.words (behind old.sizes slot) (retired_word shared);
  }
  pub knew : old.known ≤ count
  pub lone : IsLone old → count ≡ old.known
  pub last : IsLone old → shared ≡ true → word_of old slot ≡ claimed_word true

-- an owner of a slot went, and others stay, as many as its word tells that was found
pub record LeavesAt {J : Type 0} (slot word : ℕ) (old new : LocalState J) : Type 0 where
  pub member : new ≡ record old { words = slice_set old.words (behind old.sizes slot) (word - 1) }
  pub counted : counted word ≡ 1
  pub several : 1 < alive word
  pub lone : IsLone old → word_of old slot ≡ word

-- an owner of a slot went, which was one of several or not, as the last one or beside others
abbrev pub OwnerGoes : {J : Type 0} → ℕ → Bool → Bool → LocalState J → LocalState J → Type 0
OwnerGoes slot shared true old new = (count : ℕ) × RetiresAt slot shared count old new
OwnerGoes slot shared false old new = (word : ℕ) × LeavesAt slot word old new

-- an owner of a slot came beside another
pub record AddsAt {J : Type 0} (slot word : ℕ) (old new : LocalState J) : Type 0 where
  pub member : new ≡ record old { words = slice_set old.words (behind old.sizes slot) (word + 1) }
  pub counted : counted word ≡ 1
  pub left : 0 < alive word
  pub few : alive word < most_owners
  pub lone : IsLone old → word_of old slot ≡ word

-- as many own it as may, so that none came
pub record HasMost {J : Type 0} (slot word : ℕ) (old new : LocalState J) : Type 0 where
  pub member : (z : ℕ) × (new ≡ record old { words = slice_set old.words (behind old.sizes slot) z })
  pub counted : counted word ≡ 1
  pub many : most_owners ≤ alive word
  pub lone : IsLone old → (word_of old slot ≡ word) × (new ≡ old)

-- what is noted of words once a slot's only owner wrote its word, where it is counted
abbrev pub unique_words : Bool → ℕ → Sizes → List ℕ → List ℕ
unique_words true slot z words = slice_set words (behind z slot) (claimed_word true)
unique_words false slot z words = words

-- a slot's only owner wrote its word, where it is counted
abbrev pub with_unique : {J : Type 0} → Bool → ℕ → LocalState J → LocalState J
with_unique shared slot m = record m { words = unique_words shared slot m.sizes m.words }

-- a lone participant knows that its word counts one, where its owners are counted
abbrev pub KnowsUnique : {J : Type 0} → LocalState J → ℕ → Bool → Type 0
KnowsUnique m slot shared = IsLone m → shared ≡ true → word_of m slot ≡ claimed_word true

-- the item of an owner that was alone has another value, which shows this
pub record ChangesAt {J : Type 0} (slot : ℕ) (shared : Bool) (value : Gv) (old new : LocalState J) : Type 0 where
  pub inside : slot < old.limits.slots
  pub member : new ≡ record (with_unique shared slot old) { filled = record { slot = slot; shared = shared; value = value } ∷ old.filled }
  pub unique : KnowsUnique old slot shared
  pub quiet : ¬ (HasOpenGuard old)

-- the item of an owner that was alone was dropped in its place, and its slot is free
pub record DropsAt {J : Type 0} (slot : ℕ) (shared : Bool) (old new : LocalState J) : Type 0 where
  pub inside : slot < old.limits.slots
  pub member : new ≡ record old { tally = one_in_place old.tally; words = slice_set old.words (behind old.sizes slot) (free_word 0) }
  pub unique : KnowsUnique old slot shared
  pub quiet : ¬ (HasOpenGuard old)

-- an owner isn't alone with its item, as others own it
pub record HasOthers {J : Type 0} (slot : ℕ) (shared : Bool) (old new : LocalState J) : Type 0 where
  pub same : new ≡ old
  pub several : shared ≡ true
  pub counted : IsLone old → (counted (word_of old slot) ≡ 1) × (1 < alive (word_of old slot))

-- or as a guard is open somewhere
pub record SeesGuard {J : Type 0} (slot : ℕ) (shared : Bool) (old new : LocalState J) : Type 0 where
  pub same : new ≡ with_unique shared slot old
  pub unique : KnowsUnique old slot shared
  pub guarded : IsLone old → HasOpenGuard old

-- an owner that is one of several goes, and others stay
pub record GoesBeside {J : Type 0} (slot : ℕ) (shared : Bool) (old new : LocalState J) : Type 0 where
  pub word : ℕ
  pub leaves : LeavesAt slot word old new
  pub several : shared ≡ true

-- by the words that a lone participant knows the place of a job is free
abbrev pub IsFreePlace : {J : Type 0} → LocalState J → ℕ → Type 0
IsFreePlace m place = IsFree m (place_number m place)

-- no place of a job is free
abbrev pub AllPlacesTaken : {J : Type 0} → LocalState J → Type 0
AllPlacesTaken m = (place : ℕ) → place < m.limits.jobs → ¬ (IsFreePlace m place)

-- this job waits with it in a place from now on, where none waited, deferred at the count of this moment
pub record DefersTo {J : Type 0} (place count : ℕ) (job : J) (old new : LocalState J) : Type 0 where
  pub inside : place < old.limits.jobs
  pub member : new ≡ record old {
    own = awaiting (Job place) old.own;
    known = count;
    slots = record old.slots { waits = old.slots.waits ++ retired_now (place_number old place) count ∷ [] };
    words = slice_set old.words (behind old.sizes (place_number old place)) (waiting_word 0);
    jobs = with_entry old.jobs place job;
  }
  pub first : total (waits_in (place_number old place)) old.slots.waits ≡ 0
  pub knew : old.known ≤ count
  pub lone : IsLone old → (count ≡ old.known) × IsFreePlace old place

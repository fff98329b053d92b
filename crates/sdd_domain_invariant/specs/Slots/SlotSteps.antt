-- What each step makes of what the participant knows of slots, and what it tells
use Rattle.std.specs.Prelude.{◌≡◌, ◌≢◌, ◌⊎◌, ℕ, ◌+◌, ◌*◌, ◌==◌, ◌<◌, ◌≤◌, not, if◌then◌else◌, List, [], ◌∷◌, ◌++◌, map, length, replicate, slice_index, slice_set, Some, None, ◌-◌, Option}
use Rattle.std.specs.List.{filter}
use mathlib.Core.Option.{some}
use lib.ListN.{get_elem?}
use Rattle.sdd_rights.specs.declared.views.EpochView.{EpochView}
use Rattle.sdd_rights.specs.declared.views.PrivateItem.{PrivateItem}
use Rattle.sdd_rights.specs.declared.views.SlotsView.{SlotsView}
use Rattle.sdd_rights.specs.declared.views.WaitingItem.{WaitingItem}
use Rattle.sdd_rights.specs.declared.views.View.{View}
use Rattle.sdd_rights.specs.declared.views.Sizes.{Sizes}
use Rattle.sdd_domain_invariant.specs.Words.{words_behind, most_waiting, state_word, slot_word}
pub use Rattle.sdd_domain_invariant.specs.Words.{behind}
use Rattle.sdd_domain_invariant.specs.Epoch.{HasPlace, IsOpen, IsLone}
use Rattle.sdd_domain_invariant.specs.Slots.{items_at, Sees}
use Rattle.sdd_domain_invariant.specs.Collectors.{privates_at}
use Rattle.sdd_domain_invariant.specs.Codes.{alive, counted, most_owners, held_word, shared_word}
use Rattle.sdd_domain_invariant.specs.Epoch.EpochSteps.{knowing, closed, Publishes}

-- the words of cells, slots and jobs before anybody takes part
abbrev pub blank : Sizes → List ℕ
blank sizes = replicate (words_behind sizes) 0

-- what is known of these words once y is in that of a slot
abbrev pub noted : ℕ → ℕ → View → List ℕ
noted slot y v = slice_set v.words (behind v.sizes slot) y

-- a lone participant finds what it knew
abbrev pub Knew : ℕ → View → ℕ → Type 0
Knew slot v x = IsLone v.epoch → x ≡ slice_index v.words (behind v.sizes slot)

-- the slots other than this one
abbrev pub without : ℕ → List ℕ → List ℕ
without slot = filter (λ other. not (other == slot))

-- the items of other slots
abbrev pub without_item : ℕ → List WaitingItem → List WaitingItem
without_item slot = filter (λ (x : WaitingItem). not (x.slot == slot))

-- the first of a list, and the others
abbrev pub first : List ℕ → List ℕ
first [] = []
first (x ∷ xs) = x ∷ []

abbrev pub others : List ℕ → List ℕ
others [] = []
others (x ∷ xs) = xs

-- the owner of the first slot goes, to a seat of its own, with its unit
abbrev pub parted : View → View
parted v = record v { slots = record v.slots { owns = others v.slots.owns; drawn = others v.slots.drawn } }

-- the owners that another knows come, with their units
abbrev pub joined : View → View → View
joined v w = record v {
  slots = record v.slots {
    owns = w.slots.owns ++ v.slots.owns;
    drawn = w.slots.drawn ++ v.slots.drawn;
  };
}

-- a slot is claimed, and its word is y then
abbrev pub claimed : ℕ → ℕ → View → View
claimed slot y v = record v { slots = record v.slots { owns = slot ∷ v.slots.owns }; words = noted slot y v }

-- its only owner goes, and its item is out as raw
abbrev pub turned_raw : ℕ → ℕ → View → View
turned_raw slot y v = record v { slots = record v.slots { owns = without slot v.slots.owns }; words = noted slot y v }

abbrev pub retired_now : ℕ → ℕ → WaitingItem
retired_now slot count = record { slot = slot; retired_at = count; changes = 0; name = 0 }

-- its item is retired at a count
abbrev pub retired : ℕ → ℕ → ℕ → View → View
retired slot y count v = record v {
  epoch = knowing v.epoch count;
  slots = record v.slots { owns = without slot v.slots.owns; waits = v.slots.waits ++ retired_now slot count ∷ [] };
  words = noted slot y v;
}

-- a job waits in a place of the table of jobs from a count on, whose word is y then
abbrev pub deferred : ℕ → ℕ → ℕ → View → View
deferred place y count v = record v {
  epoch = knowing v.epoch count;
  slots = record v.slots { waits = v.slots.waits ++ retired_now place count ∷ [] };
  words = noted place y v;
}

-- an owner of it goes, where others stay
abbrev pub one_less : ℕ → ℕ → View → View
one_less slot y v = record v { slots = record v.slots { owns = others v.slots.owns }; words = noted slot y v }

-- an owner of it comes; and the count is past the bound, or not
abbrev pub one_more : ℕ → ℕ → Option ℕ → View → View
one_more slot y over v = record v { slots = record v.slots { owns = slot ∷ v.slots.owns; over = over }; words = noted slot y v }

-- it goes again, as the count was past the bound
abbrev pub taken_back : ℕ → ℕ → View → View
taken_back slot y v = record v { slots = record v.slots { owns = others v.slots.owns; over = None }; words = noted slot y v }

-- it is given back
abbrev pub given_back : ℕ → ℕ → View → View
given_back slot y v = record v { slots = record v.slots { waits = without_item slot v.slots.waits }; words = noted slot y v }

-- a guard sees it
abbrev pub seeing : ℕ → View → View
seeing slot v = record v { slots = record v.slots { sees = slot ∷ v.slots.sees } }

-- it holds a slot, and has looked at no place yet
abbrev pub held : ℕ → View → View
held slot v = record v { slots = record v.slots { holds = Some slot; looked = 0 } }

-- the same, and y is in its word then
abbrev pub held_by : ℕ → ℕ → View → View
held_by slot y v = record v { slots = record v.slots { holds = Some slot; looked = 0 }; words = noted slot y v }

-- it has looked at this place, the next one, where no guard is open
abbrev pub looked_past : ℕ → View → View
looked_past place v = record v { slots = record v.slots { looked = place + 1 } }

-- it holds none
abbrev pub release_hold : View → View
release_hold v = record v { slots = record v.slots { holds = None; looked = 0 } }

-- the same, and y is in the word of the slot that it held
abbrev pub shared_again : ℕ → ℕ → View → View
shared_again slot y v = record v { slots = record v.slots { holds = None; looked = 0 }; words = noted slot y v }

-- the item of the slot that is held goes at once
abbrev pub discarded : ℕ → ℕ → View → View
discarded slot y v = record v { slots = record v.slots { owns = without slot v.slots.owns; holds = None; looked = 0 }; words = noted slot y v }

-- an item after one change more
abbrev pub older : WaitingItem → WaitingItem
older x = record x { changes = x.changes + 1 }

abbrev pub older_private : PrivateItem → PrivateItem
older_private x = record x { item = older x.item }

-- each item that waits, privately or not, has seen one change more
abbrev pub aged : SlotsView → SlotsView
aged s = record s { waits = map older s.waits; privates = map older_private s.privates }

-- at a publish: another count than the last one that was found is a change for each item that waits
abbrev pub changed : View → SlotsView
changed v = if v.epoch.count == v.epoch.found then v.slots else aged v.slots

-- at a close: nothing is seen any more
abbrev pub unseeing : View → SlotsView
unseeing v = record v.slots { sees = [] }

-- an item of the slot waits with it that has seen three changes
abbrev pub IsDue : View → ℕ → Type 0
IsDue v slot = (k : ℕ) × (x : WaitingItem) × (get_elem? v.slots.waits k ≡ some x) × (x.slot ≡ slot) × (3 ≤ x.changes)

-- each of these: what was known before, the number found (at a store the number stored), and what is known after
-- a step of the epoch's part leaves what is known of the others
abbrev pub OnEpoch : (EpochView → ℕ → EpochView → Type 0) → View → ℕ → View → Type 0
OnEpoch R v x w = (e : EpochView) × (w ≡ record v { epoch = e }) × R v.epoch x e

-- but for a publish and a close
abbrev pub PublishesAll : View → ℕ → View → Type 0
PublishesAll v x w = (e : EpochView) × (w ≡ record v { epoch = e; slots = changed v }) × Publishes v.epoch x e

abbrev pub ClosesAll : View → ℕ → View → Type 0
ClosesAll v x w = w ≡ record v { epoch = closed v.epoch; slots = unseeing v }

-- the claim of a slot whose word is old as long as it is free
abbrev pub Claims : ℕ → ℕ → ℕ → View → ℕ → View → Type 0
Claims slot old y v x w = (x ≡ old → w ≡ claimed slot y v) × (x ≢ old → w ≡ v) × Knew slot v x

-- the item of an only owner is out as raw, and nobody owns it
abbrev pub TurnsRaw : ℕ → View → ℕ → View → Type 0
TurnsRaw slot v y w = w ≡ turned_raw slot y v

-- an item that is out as raw, whose word is old then, is owned as after a claim
abbrev pub Regains : ℕ → ℕ → ℕ → View → ℕ → View → Type 0
Regains slot old y v x w = (x ≡ old → w ≡ claimed slot y v) × (x ≢ old → w ≡ v) × Knew slot v x

-- the word of a slot is looked at under a guard, which sees the slot from now on where its item is out as raw, and its word is old, if it didn't before
abbrev pub SeesRaw : ℕ → ℕ → View → ℕ → View → Type 0
SeesRaw slot old v x w = (x ≡ old → ¬ (Sees v slot) → w ≡ seeing slot v) × ((x ≢ old) ⊎ Sees v slot → w ≡ v) × Knew slot v x

-- the item of a slot whose last owner goes waits from the count of this moment on, which is known after it: under an open guard the one at the publish,
-- or one more. Less than may wait did so before, and nothing of the slot, privately or not
abbrev pub Retires : ℕ → View → ℕ → View → Type 0
Retires slot v y w = (count : ℕ) × (v.epoch.known ≤ count) × (IsLone v.epoch → count ≡ v.epoch.known) × (w ≡ retired slot y count v)
    × (IsOpen v.epoch → count ≤ v.epoch.since + 1) × (length v.slots.waits < most_waiting v.sizes) × (items_at slot v ≡ 0) × (privates_at slot v ≡ 0)

-- a job waits in the place from the count of this moment on, which is known after it, as a retired item does. None waited there before, and less than
-- may wait did so
abbrev pub DefersAt : ℕ → ℕ → View → View → Type 0
DefersAt place y v w = (count : ℕ) × (v.epoch.known ≤ count) × (IsLone v.epoch → count ≡ v.epoch.known) × (w ≡ deferred place y count v)
    × (IsOpen v.epoch → count ≤ v.epoch.since + 1) × (length v.slots.waits < most_waiting v.sizes) × (items_at place v ≡ 0)

-- a job's place, whose word is old as long as it is free, is claimed for a job, which waits there at once
abbrev pub Defers : ℕ → ℕ → ℕ → View → ℕ → View → Type 0
Defers place old y v x w = (x ≡ old → DefersAt place y v w) × (x ≢ old → w ≡ v) × Knew place v x

-- an owner that is counted goes, by one subtraction: where one was counted it was the last, and the item waits
abbrev pub Releases : ℕ → View → ℕ → View → Type 0
Releases slot v x w = (counted x ≡ 1) × (0 < alive x) × (alive x ≡ 1 → Retires slot v (x - 1) w) × (alive x ≢ 1 → w ≡ one_less slot (x - 1) v) × Knew slot v x

-- an owner that is counted goes beside others, by one exchange of a word that was found, where it is still that
abbrev pub LeavesBeside : ℕ → ℕ → View → ℕ → View → Type 0
LeavesBeside word slot v x w = (counted x ≡ 1) × (0 < alive x) × (x ≡ word → w ≡ one_less slot (word - 1) v) × (x ≢ word → w ≡ v) × Knew slot v x

-- an owner comes beside another, by one addition: where as many were counted as may be, the count is past the bound then
abbrev pub Adds : ℕ → View → ℕ → View → Type 0
Adds slot v x w = (counted x ≡ 1) × (0 < alive x) × (alive x < most_owners → w ≡ one_more slot (x + 1) None v)
    × (most_owners ≤ alive x → w ≡ one_more slot (x + 1) (Some slot) v) × Knew slot v x

-- an owner comes beside others, by one exchange of a word that was found, where it is still that
abbrev pub AddsBeside : ℕ → ℕ → View → ℕ → View → Type 0
AddsBeside word slot v x w = (x ≡ word → w ≡ one_more slot (word + 1) None v) × (x ≢ word → w ≡ v) × Knew slot v x

-- it is taken back, by one subtraction
abbrev pub TakesBack : ℕ → View → ℕ → View → Type 0
TakesBack slot v x w = (w ≡ taken_back slot (x - 1) v) × Knew slot v x

-- the slot is free, in which one item waited
abbrev pub GivesBack : ℕ → View → ℕ → View → Type 0
GivesBack slot v y w = (w ≡ given_back slot y v) × (items_at slot v ≡ 1)

-- the word of a slot is looked at
abbrev pub LooksAtSlot : ℕ → View → ℕ → View → Type 0
LooksAtSlot slot v x w = (w ≡ v) × Knew slot v x

-- a slot of the participant's own is held
abbrev pub TakesHold : ℕ → View → ℕ → View → Type 0
TakesHold slot v x w = (w ≡ held slot v) × Knew slot v x

-- it no longer is
abbrev pub LetsGo : ℕ → View → ℕ → View → Type 0
LetsGo slot v x w = (w ≡ release_hold v) × Knew slot v x

-- a try to hold a slot of the participant's own whose owners are counted: it is held where one was counted, and nothing changes where more were
abbrev pub TriesHold : ℕ → View → ℕ → View → Type 0
TriesHold slot v x w = (counted x ≡ 1) × (0 < alive x) × (x ≡ shared_word 1 → w ≡ held_by slot held_word v) × (x ≢ shared_word 1 → w ≡ v) × Knew slot v x

-- it no longer is held, and its word says one owner again
abbrev pub SharesAgain : ℕ → View → ℕ → View → Type 0
SharesAgain slot v y w = w ≡ shared_again slot y v

-- its item goes at once
abbrev pub Discards : ℕ → View → ℕ → View → Type 0
Discards slot v y w = w ≡ discarded slot y v

-- a look at the state of a place, whose word is i: is a guard open there, which may see what is held? Of its own place it knows
abbrev pub LooksForGuard : ℕ → View → ℕ → View → Type 0
LooksForGuard i v x w = (place : ℕ) → i ≡ state_word v.sizes place
    → (x ≢ 2 → w ≡ looked_past place v) × (x ≡ 2 → w ≡ v) × (HasPlace v.epoch → place ≡ v.epoch.place → x ≡ v.epoch.state)

-- a step on the word i tells R of the slot whose word it is
abbrev pub AtSlot : (ℕ → View → ℕ → View → Type 0) → ℕ → View → ℕ → View → Type 0
AtSlot R i v x w = (slot : ℕ) → i ≡ slot_word v.sizes slot → R slot v x w

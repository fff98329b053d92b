-- What each step on private items makes of what the participant knows, and what it tells
use Rattle.std.specs.Prelude.{◌≡◌, ◌≢◌, ◌⊎◌, ℕ, ◌^◌, ◌==◌, not, List, [], ◌∷◌, ◌++◌, map, Some, None, true, false, if◌then◌else◌}
use Rattle.std.specs.List.{filter}
use mathlib.Core.Option.{some}
use lib.ListN.{get_elem?}
use Rattle.sdd_rights.specs.declared.views.PrivateItem.{PrivateItem}
use Rattle.sdd_rights.specs.declared.views.WaitingItem.{WaitingItem}
use Rattle.sdd_rights.specs.declared.views.View.{View}
use Rattle.sdd_domain_invariant.specs.Codes.{private_word, waiting_word, emptying_word, emptied_word, left_word}
use Rattle.sdd_domain_invariant.specs.Collectors.{HasPrivate}
use Rattle.sdd_domain_invariant.specs.Slots.SlotSteps.{noted, Knew, without, without_item}

-- the private items of other slots
abbrev pub without_private : ℕ → List PrivateItem → List PrivateItem
without_private slot = filter (λ (x : PrivateItem). not (x.item.slot == slot))

-- this item, which waits for a collector
abbrev pub for_collector : ℕ → WaitingItem → PrivateItem
for_collector collector x = record { collector = collector; item = x }

-- an item that waits does so for a collector from now on
abbrev pub collected : ℕ → ℕ → WaitingItem → ℕ → View → View
collected slot collector x y v = record v {
  slots = record v.slots { waits = without_item slot v.slots.waits; privates = v.slots.privates ++ for_collector collector x ∷ [] };
  words = noted slot y v;
}

-- it waits as any other from now on, before its collector's close came to it
abbrev pub reclaimed : ℕ → WaitingItem → ℕ → View → View
reclaimed slot x y v = record v {
  slots = record v.slots { waits = v.slots.waits ++ x ∷ []; privates = without_private slot v.slots.privates };
  words = noted slot y v;
}

-- no collector has this number: no word tells of it
abbrev pub no_collector : ℕ
no_collector = 2 ^ 60

-- once a close is found to have claimed what waits in the slot, that waits for no collector
abbrev pub orphan : ℕ → PrivateItem → PrivateItem
orphan slot x = if x.item.slot == slot then record x { collector = no_collector } else x

abbrev pub orphaned : ℕ → View → View
orphaned slot v = record v { slots = record v.slots { privates = map (orphan slot) v.slots.privates } }

-- it was found emptied
abbrev pub found_emptied : ℕ → View → View
found_emptied slot v = record v { slots = record v.slots { emptied = slot ∷ v.slots.emptied } }

-- it is left to the close that empties it
abbrev pub left_to_close : ℕ → ℕ → View → View
left_to_close slot y v = record v { slots = record v.slots { privates = without_private slot v.slots.privates }; words = noted slot y v }

-- its slot is given back, since it was emptied
abbrev pub private_given_back : ℕ → ℕ → View → View
private_given_back slot y v = record v {
  slots = record v.slots { privates = without_private slot v.slots.privates; emptied = without slot v.slots.emptied };
  words = noted slot y v;
}

-- it closes a collector, and has looked at no place yet
abbrev pub closing : ℕ → View → View
closing collector v = record v { slots = record v.slots { closes = Some collector; looked = 0 } }

-- it closes none
abbrev pub closed_none : View → View
closed_none v = record v { slots = record v.slots { closes = None; looked = 0 } }

-- it empties a slot, for the collector that it closes
abbrev pub empties_now : ℕ → ℕ → View → View
empties_now slot y v = record v { slots = record v.slots { empties = Some slot }; words = noted slot y v }

-- it has done so, and the bag gives the slot back
abbrev pub emptied_now : ℕ → ℕ → View → View
emptied_now slot y v = record v { slots = record v.slots { empties = None }; words = noted slot y v }

-- it has done so, and found that the bag has let go of it
abbrev pub finds_left : View → View
finds_left v = record v { slots = record v.slots { left = true } }

-- so it gives the slot back itself
abbrev pub empty_given_back : ℕ → ℕ → View → View
empty_given_back slot y v = record v { slots = record v.slots { empties = None; left = false }; words = noted slot y v }

-- it has emptied an item of its own bag, and gives the slot back
abbrev pub own_given_back : ℕ → ℕ → View → View
own_given_back slot y v = record v {
  slots = record v.slots { privates = without_private slot v.slots.privates; empties = None };
  words = noted slot y v;
}

-- a private item of the slot waits with it for this collector
abbrev pub WaitsFor : ℕ → View → ℕ → Type 0
WaitsFor collector v slot = (x : PrivateItem) × HasPrivate v x × (x.item.slot ≡ slot) × (x.collector ≡ collector)

-- an item of the slot waits with it
abbrev pub HasWaiting : View → ℕ → WaitingItem → Type 0
HasWaiting v slot x = (x.slot ≡ slot) × ((m : ℕ) × (get_elem? v.slots.waits m ≡ some x))

-- each of these: what was known before, the number found (at a store the number stored), and what is known after
-- an item that waits is collected
abbrev pub Collects : ℕ → ℕ → View → ℕ → View → Type 0
Collects collector slot v y w = (x : WaitingItem) × HasWaiting v slot x × (w ≡ collected slot collector x y v)

-- a private item is claimed for the bag, unless its collector's close came first: then it is emptied, or was
abbrev pub Reclaims : ℕ → ℕ → View → ℕ → View → Type 0
Reclaims collector slot v x w =
    (x ≡ private_word collector → (r : PrivateItem) × HasPrivate v r × (r.item.slot ≡ slot) × (w ≡ reclaimed slot r.item (waiting_word 0) v))
    × (x ≡ emptied_word → w ≡ found_emptied slot v) × (x ≡ emptying_word → w ≡ orphaned slot v)
    × ((x ≡ private_word collector) ⊎ ((x ≡ emptied_word) ⊎ (x ≡ emptying_word))) × Knew slot v x

-- a private item is left to the close that empties it, unless that is done, or hasn't begun
abbrev pub LeavesToClose : ℕ → ℕ → View → ℕ → View → Type 0
LeavesToClose collector slot v x w = (x ≡ emptying_word → w ≡ left_to_close slot left_word v) × (x ≡ emptied_word → w ≡ found_emptied slot v)
    × (x ≡ private_word collector → w ≡ v)
    × ((x ≡ private_word collector) ⊎ ((x ≡ emptied_word) ⊎ (x ≡ emptying_word))) × Knew slot v x

-- a slot that was found emptied is free
abbrev pub GivesPrivateBack : ℕ → View → ℕ → View → Type 0
GivesPrivateBack slot v y w = w ≡ private_given_back slot y v

-- a close claims what waits for its collector
abbrev pub EmptiesSlot : ℕ → ℕ → View → ℕ → View → Type 0
EmptiesSlot collector slot v x w = (x ≡ private_word collector → w ≡ empties_now slot emptying_word v) × (x ≢ private_word collector → w ≡ v) × Knew slot v x

-- one claims an item of its own bag so, unless an earlier close did, which empties it, or has done so
abbrev pub EmptiesOwn : ℕ → ℕ → View → ℕ → View → Type 0
EmptiesOwn collector slot v x w = (x ≡ private_word collector → w ≡ empties_now slot emptying_word v)
    × (x ≡ emptied_word → w ≡ found_emptied slot v) × (x ≡ emptying_word → w ≡ orphaned slot v)
    × ((x ≡ private_word collector) ⊎ ((x ≡ emptied_word) ⊎ (x ≡ emptying_word))) × Knew slot v x

-- it is emptied: its bag gives the slot back, or has let go of it
abbrev pub HasEmptied : ℕ → View → ℕ → View → Type 0
HasEmptied slot v x w = (x ≡ emptying_word → w ≡ emptied_now slot emptied_word v) × (x ≡ left_word → w ≡ finds_left v)
    × ((x ≡ emptying_word) ⊎ (x ≡ left_word)) × Knew slot v x

-- and the slot is free
abbrev pub GivesEmptyBack : ℕ → View → ℕ → View → Type 0
GivesEmptyBack slot v y w = w ≡ empty_given_back slot y v

-- an item of its own bag is emptied, and the slot is free
abbrev pub GivesOwnBack : ℕ → View → ℕ → View → Type 0
GivesOwnBack slot v y w = w ≡ own_given_back slot y v

-- What is in a participant's bags, and what is due, beside what its view knows to wait
use Rattle.std.specs.Prelude.{◌≡◌, ◌↔◌, ℕ, ◌*◌, ◌<◌, ◌≤◌, ◌==◌, ◌||◌, not, Bool, false, Option, None, Some, List, [], ◌∷◌, length, map, filter}
use Rattle.sdd_participants.specs.declared.waiting.LimboEntry.{LimboEntry}
use Rattle.sdd_participants.specs.Slab.{Entries, entry_at}
use Rattle.sdd_participants.specs.Waiting.{Waiting}
use Rattle.sdd_rights.specs.declared.views.PrivateItem.{PrivateItem}
use Rattle.sdd_rights.specs.declared.views.SlotsView.{SlotsView}
use Rattle.sdd_rights.specs.declared.views.WaitingItem.{WaitingItem}
use Rattle.sdd_domain_invariant.specs.Collectors.{private_in}
use Rattle.sdd_domain_invariant.specs.Slots.{waits_in}
use Rattle.sdd_domain_invariant.specs.Sums.{total, is}
use Rattle.sdd_domain_steps.specs.WaitingItems.{what_of, waiting_of, is_ripe}

-- what waits does so for no collector, or privately, for one
pub data Kept : Type 0 where
  Plainly : WaitingItem → Kept
  Privately : PrivateItem → Kept

abbrev pub item_of : Kept → WaitingItem
item_of (Plainly x) = x
item_of (Privately x) = x.item

abbrev pub plain_of : List Kept → List WaitingItem
plain_of [] = []
plain_of (Plainly x ∷ xs) = x ∷ plain_of xs
plain_of (Privately x ∷ xs) = plain_of xs

abbrev pub private_of : List Kept → List PrivateItem
private_of [] = []
private_of (Plainly x ∷ xs) = private_of xs
private_of (Privately x ∷ xs) = x ∷ private_of xs

-- the same ones in any order: whatever is added up over them comes out alike
abbrev pub AreSame : {X : Type 0} → List X → List X → Type 0
AreSame {X} xs ys = (f : X → ℕ) → total f xs ≡ total f ys

-- what a view knows to wait, for no collector and privately, and which collector is being closed
pub record KnownWaiting : Type 0 where
  pub plain : List WaitingItem
  pub private : List PrivateItem
  pub closes : Option ℕ

abbrev pub known_waiting : SlotsView → KnownWaiting
known_waiting s = record { plain = s.waits; private = s.privates; closes = s.closes }

-- 1 for a private item of the slot that waits for this collector
abbrev pub private_for : ℕ → ℕ → PrivateItem → ℕ
private_for collector slot x = is slot x.item.slot * is collector x.collector

-- a table of so many slots tells for which collector the item of each waits privately, where it does
pub record TellsCollectors (slots : ℕ) (table : Entries ℕ) (private : List PrivateItem) : Type 0 where
  pub long : length table ≡ slots
  pub waits : (slot collector : ℕ) → (entry_at table slot ≡ Some collector) ↔ (0 < total (private_for collector slot) private)

-- the collector is being closed
abbrev pub is_closed : Option ℕ → ℕ → Bool
is_closed None collector = false
is_closed (Some closed) collector = collector == closed

-- it is due: it has seen three changes, or waits for the collector that is being closed
abbrev pub is_out : Option ℕ → Kept → Bool
is_out closes (Plainly x) = is_ripe x
is_out closes (Privately x) = is_closed closes x.collector || is_ripe x.item

-- what is due of it
abbrev pub out_of : Option ℕ → List Kept → List WaitingItem
out_of closes all = map item_of (filter (is_out closes) all)

-- and what isn't
abbrev pub kept_in : Option ℕ → List Kept → List WaitingItem
kept_in closes all = map item_of (filter (λ (x : Kept). not (is_out closes x)) all)

-- so many slots there are. All that waits is what the view knows; in the order in which it began to wait, what has seen three changes is due, and so is what
-- waits for the collector that is being closed; the rest is in the bags. Only items are private, and of each slot and each place of a job one waits at most
pub record AreInBags (n : ℕ) (known : KnownWaiting) (waiting : List Waiting) (taken : List LimboEntry) : Type 0 where
  pub all : List Kept
  pub plain : AreSame known.plain (plain_of all)
  pub private : AreSame known.private (private_of all)
  pub bags : waiting ≡ map (waiting_of n) (kept_in known.closes all)
  pub due : taken ≡ map (what_of n) (out_of known.closes all)
  pub items : (i : ℕ) → n ≤ i → total (private_in i) known.private ≡ 0
  pub once : (i : ℕ) → total (waits_in i) (map item_of all) ≤ 1

-- What a lone participant's words, its bags and its ledger have to do with one another
use Rattle.std.specs.Prelude.{◌≡◌, ℕ, ◌+◌, ◌<◌, ◌/◌, ◌==◌, ◌||◌, ◌&&◌, leb, Bool, IsTrue, List, Option, Some, None, length, slice_index_or}
use base.Stored.{Gv}
use Rattle.sdd_participants.specs.Slab.{entry_at}
use Rattle.sdd_rights.specs.declared.views.ShownValue.{ShownValue}
use Rattle.sdd_domain_invariant.specs.Words.{words_behind}
use Rattle.sdd_domain_invariant.specs.Codes.{free_word, owned_word, raw_word, waiting_word, waiting, waits_for, full, shared_base, most_owners}
use Rattle.sdd_domain_invariant.specs.Sums.{total}
use Rattle.sdd_domain_invariant.specs.Slots.{waits_in}
use Rattle.sdd_domain_invariant.specs.Slots.FilledInvariant.{newest}
use Rattle.sdd_domain_steps.specs.InBags.{AreInBags, known_waiting, private_for}
use Rattle.sdd_domain_steps.specs.LocalState.{LocalState, IsLone, word_of, place_number}

-- which values are in slots, with their codes
abbrev pub Entries : Type 0 → Type 0
Entries T = List (Option (T × Gv))

-- a word that a lone participant knows of a slot: it is free, owned, or its item waits, for a collector or none, or is out as raw, or it counts owners, 2^62 at
-- most
abbrev pub is_plain_word : ℕ → Bool
is_plain_word x = x == free_word 0 || (x == owned_word 0 || (x == waiting_word 0 || (x == raw_word 0
    || ((leb shared_base x && leb x (shared_base + most_owners)) || waits_for (x / 16) x == 1))))

-- the ledger has the value whose code the record tells
abbrev pub Agrees : {T : Type 0} → Option ShownValue → Option (T × Gv) → Type 0
Agrees None e = ⊥
Agrees (Some r) None = ⊥
Agrees (Some r) (Some e) = e.1 ≡ r.value

-- a job's place is free where its word says so, and where it has a job the word says that what is there waits
abbrev pub MatchesPlace : {J : Type 0} → ℕ → Option J → Type 0
MatchesPlace word None = word ≡ free_word 0
MatchesPlace word (Some job) = word ≡ waiting_word 0

-- of a lone participant: what it knows of words and of what it moved in is what its bags and its ledger have
pub record AreTied {T J : Type 0} (m : LocalState J) (entries : Entries T) : Type 0 where
  pub place : m.place ≡ 0
  pub slots : m.sizes.slots ≡ m.limits.slots
  pub places : m.sizes.jobs ≡ m.limits.jobs
  pub all_cells : m.sizes.cells ≡ m.limits.cells
  pub long : length m.words ≡ words_behind m.sizes
  pub wide : length entries ≡ m.limits.slots
  pub plain : (slot : ℕ) → slot < m.limits.slots → IsTrue (is_plain_word (word_of m slot))
  pub waits : (slot : ℕ) → slot < m.limits.slots → total (waits_in slot) m.slots.waits ≡ waiting (word_of m slot)
  pub privates : (slot : ℕ) → slot < m.limits.slots → (collector : ℕ)
      → total (private_for collector slot) m.slots.privates ≡ waits_for collector (word_of m slot)
  pub kept : (slot : ℕ) → slot < m.limits.slots → full (word_of m slot) ≡ 1 → Agrees (newest slot m.filled) (slice_index_or entries slot None)
  pub table : length m.jobs ≡ m.limits.jobs
  pub jobs : (place : ℕ) → place < m.limits.jobs → MatchesPlace (word_of m (place_number m place)) (entry_at m.jobs place)
  pub bags : AreInBags m.limits.slots (known_waiting m.slots) m.own.bags.waiting m.due
  pub now : 0 < m.own.guards → m.known ≡ m.own.found

abbrev pub WordsMatchValues : {T J : Type 0} → LocalState J → Entries T → Type 0
WordsMatchValues m entries = IsLone m → AreTied m entries

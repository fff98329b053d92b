-- A participant of a domain with what it moved into slots, and the world of a lone one: nobody else changes its domain
use Rattle.std.specs.Prelude.{ℕ, zero, suc, ◌+◌, ◌-◌, ◌/◌, ◌%◌, ◌==◌, List, [], ◌∷◌, Option, Some, None, replicate, slice_get, slice_index_or, option_map, if◌then◌else◌, false}
use base.Stored.{Gv}
use Rattle.sdd_participants.specs.EpochState.{EpochState, newcomer}
use Rattle.sdd_participants.specs.Jobs.{places_of}
use Rattle.sdd_participants.specs.declared.place_states.PlaceState.TheVariants.{Live}
use Rattle.sdd_participants.specs.declared.standing.Standing.{Standing}
use Rattle.sdd_participants.specs.declared.standing.Standing.TheVariants.{Owned, Raw, Shared, Retired, Private}
use Rattle.sdd_participants.specs.declared.standing.CellContents.{CellContents}
use Rattle.sdd_participants.specs.declared.standing.RawCellContents.{RawCellContents}
use Rattle.sdd_domain_invariant.specs.Codes.{free_word, raw_word, alive, waiting, waits_for, counted, held_slots}
use Rattle.sdd_core.specs.declared.limits.Limits.{Limits}
use Rattle.sdd_core.specs.declared.tag.Tag.{Tag}
use Rattle.sdd_core.specs.declared.tag.Tag.TheVariants.{First, Second, Both, None as Untagged}
use Rattle.sdd_world_model.specs.World.{World, IsBlank}
use Rattle.sdd_domain_steps.specs.LocalState.{LocalState, word_of, cell_word_of, pointer_word_of}
use Rattle.sdd_domain_steps.specs.WordsAndValues.{Entries}
use Rattle.sdd_domain_steps.specs.SpaceIds.{home_in}

-- its core, and the ledger of what it moved into slots
pub record LocalModel (T J : Type 0) : Type 0 where
  pub member : LocalState J
  pub entries : Entries T

-- so many things, each by its number
abbrev pub listing : {A : Type 0} → ℕ → (ℕ → A) → List A
listing zero f = []
listing (suc n) f = f 0 ∷ listing n (λ i. f (suc i))

-- an item that is out stands by so many owners, where its word counts them, or by its only one
abbrev pub owner_standing : ℕ → Standing
owner_standing word = if counted word == 1 then Shared (alive word) else Owned

-- one that isn't waits for the collector that its word names
abbrev pub item_standing : ℕ → Standing
item_standing word = if waits_for (word / 16) word == 1 then Private (word / 16) else owner_standing word

-- how a slot stands by its word
abbrev pub standing_by : ℕ → Option Standing
standing_by word =
    if word == free_word 0 then None
    else (if waiting word == 1 then Some Retired else (if word == raw_word 0 then Some Raw else Some (item_standing word)))

abbrev pub value_by : {T : Type 0} → ℕ → Option (T × Gv) → Option T
value_by word entry = if word == free_word 0 then None else option_map (λ e. e.0) entry

-- the tag of this number, which is below 4
abbrev pub tag_by : ℕ → Tag
tag_by number = if number == 1 then First else (if number == 2 then Second else (if number == 3 then Both else Untagged))

-- what a cell holds by its word: the owner of a slot or none, with a tag
abbrev pub contents_of : ℕ → CellContents
contents_of word = record { held = slice_get (held_slots word) 0; tag = tag_by (word % 4) }

-- a cell is free by its word, or holds that
abbrev pub contents_by : ℕ → Option CellContents
contents_by word = if word == 0 then None else Some (contents_of word)

-- what the word of a pointer names: a slot or nothing, with a tag
abbrev pub pointer_by : ℕ → RawCellContents
pointer_by word = record { named = if word / 4 == 0 then None else Some (word / 4 - 1); tag = tag_by (word % 4) }

-- the count that it knows, and itself, alone
abbrev pub time_of : {J : Type 0} → LocalState J → EpochState
time_of m = record {
  count = m.known;
  marked = false;
  places = replicate (suc m.place) m.own;
  phases = replicate (suc m.place) (Some Live);
  participants = m.limits.participants;
  nesting = m.limits.nesting;
  room = m.limits.slots + m.limits.jobs;
}

module _ {T : Type 0} where
  abbrev pub standing_in : {J : Type 0} → LocalModel T J → ℕ → Option Standing
  standing_in p slot = standing_by (word_of p.member slot)

  abbrev pub value_in : {J : Type 0} → LocalModel T J → ℕ → Option T
  value_in p slot = value_by (word_of p.member slot) (slice_index_or p.entries slot None)

  abbrev pub contents_in : {J : Type 0} → LocalModel T J → ℕ → Option CellContents
  contents_in p cell = contents_by (cell_word_of p.member cell)

  -- what a raw cell of this number points to, or pointed to last
  abbrev pub pointer_in : {J : Type 0} → LocalModel T J → ℕ → RawCellContents
  pointer_in p cell = pointer_by (pointer_word_of p.member cell)

  -- its domain as a world: all jobs are its own
  abbrev pub world_of : {J : Type 0} → LocalModel T J → World T
  world_of p = record {
    home = home_in p.member;
    time = time_of p.member;
    standings = listing p.member.limits.slots (standing_in p);
    values = listing p.member.limits.slots (value_in p);
    cells = listing p.member.limits.cells (contents_in p);
    pointers = listing p.member.limits.cells (pointer_in p);
    jobs = places_of p.member.jobs;
    tally = p.member.tally;
  }

-- a world with these limits, at count 0, in which all is free and one participant has just registered
abbrev pub IsBlankAlone : {T : Type 0} → Limits → World T → Type 0
IsBlankAlone l = IsBlank (record {
  count = 0;
  marked = false;
  places = newcomer (l.slots + l.jobs) ∷ [];
  phases = Some Live ∷ [];
  participants = l.participants;
  nesting = l.nesting;
  room = l.slots + l.jobs;
}) l.slots l.cells l.jobs

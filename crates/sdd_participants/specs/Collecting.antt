-- What waits for a collector, wherever it waits
use Rattle.std.specs.Prelude.{ℕ, ◌++◌, ◌==◌, Bool, false, List, [], ◌∷◌, Option, Some, None, filter, map, not}
use Rattle.sdd_participants.specs.declared.waiting.LimboEntry.{LimboEntry}
use Rattle.sdd_participants.specs.declared.waiting.LimboEntry.TheVariants.{Item, Job}
use Rattle.sdd_participants.specs.declared.standing.Standing.{Standing}
use Rattle.sdd_participants.specs.declared.standing.Standing.TheVariants.{Owned, Raw, Shared, Retired, Private}
use Rattle.sdd_participants.specs.declared.participant.Participant.{Participant}
use Rattle.sdd_participants.specs.Waiting.{Waiting}
use Rattle.sdd_participants.specs.Slab.{Entries, entry_at}
use Rattle.sdd_participants.specs.EpochState.{EpochState}

-- an item that stands so waits for the collector
abbrev pub is_private_to : ℕ → Option Standing → Bool
is_private_to c None = false
is_private_to c (Some Owned) = false
is_private_to c (Some Raw) = false
is_private_to c (Some (Shared owners)) = false
is_private_to c (Some Retired) = false
is_private_to c (Some (Private collector)) = collector == c

-- it is an item that waits for the collector
abbrev pub is_kept_for : ℕ → Entries Standing → LimboEntry → Bool
is_kept_for c standings (Item k) = is_private_to c (entry_at standings k)
is_kept_for c standings (Job j) = false

-- what is chosen of what waits with a participant, the oldest first
abbrev pub chosen_of : (LimboEntry → Bool) → List Waiting → List LimboEntry
chosen_of chosen ws = filter chosen (map (λ (w : Waiting). w.what) ws)

-- what is left of it
abbrev pub rest_of : (LimboEntry → Bool) → List Waiting → List Waiting
rest_of chosen = filter (λ w. not (chosen w.what))

-- nothing that is chosen waits with the participant
abbrev pub without : (LimboEntry → Bool) → Participant → Participant
without chosen p = record p { bags = record p.bags { waiting = rest_of chosen p.bags.waiting } }

-- what is chosen of what waits anywhere, one place after another
abbrev pub chosen_among : (LimboEntry → Bool) → List Participant → List LimboEntry
chosen_among chosen [] = []
chosen_among chosen (p ∷ ps) = chosen_of chosen p.bags.waiting ++ chosen_among chosen ps

-- nothing that is chosen waits anywhere
abbrev pub time_without : (LimboEntry → Bool) → EpochState → EpochState
time_without chosen t = record t { places = map (without chosen) t.places }

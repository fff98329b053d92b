-- What waits with a participant
use Rattle.std.specs.Prelude.{ℕ, ◌+◌, Bool, List, map, nat_lt, not, filter}
use Rattle.sdd_participants.specs.declared.waiting.LimboEntry.{LimboEntry}

-- what waits, and how many of its holder's changes it has seen
pub record Waiting : Type 0 where
  pub what : LimboEntry
  pub seen : ℕ

abbrev pub having_seen : ℕ → LimboEntry → Waiting
having_seen seen what = record { what = what; seen = seen }

-- it begins to wait
abbrev pub fresh : LimboEntry → Waiting
fresh = having_seen 0

-- it begins to wait once more
abbrev pub anew : Waiting → Waiting
anew w = fresh w.what

-- one more change was seen
abbrev pub older : Waiting → Waiting
older w = having_seen (w.seen + 1) w.what

abbrev pub aged : List Waiting → List Waiting
aged = map older

-- three changes were seen
abbrev pub is_due : Waiting → Bool
is_due w = nat_lt 2 w.seen

-- what is due, the oldest first
abbrev pub due : List Waiting → List LimboEntry
due ws = map (λ (w : Waiting). w.what) (filter is_due ws)

-- what goes on waiting
abbrev pub left : List Waiting → List Waiting
left = filter (λ w. not (is_due w))

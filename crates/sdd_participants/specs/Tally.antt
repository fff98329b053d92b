-- Counting items
use Rattle.std.specs.Prelude.{ℕ, ◌+◌, ◌-◌, ◌^◌, min}
use Rattle.sdd_participants.specs.declared.tally.Tally.{Tally}

abbrev pub no_items : Tally
no_items = record { made = 0; reclaimed = 0; in_place = 0 }

-- one more, unless the number has no more room
abbrev pub one_more : ℕ → ℕ
one_more n = min (n + 1) (2 ^ 128 - 1)

abbrev pub one_made : Tally → Tally
one_made t = record t { made = one_more t.made }

abbrev pub one_reclaimed : Tally → Tally
one_reclaimed t = record t { reclaimed = one_more t.reclaimed }

abbrev pub one_in_place : Tally → Tally
one_in_place t = record t { in_place = one_more t.in_place }

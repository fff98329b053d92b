-- The bags of a participant, as one list of what waits
use Rattle.std.specs.Prelude.{ℕ, List, map, ◌++◌}
use Rattle.sdd_participants.specs.declared.waiting.LimboEntry.{LimboEntry}
use Rattle.sdd_participants.specs.Waiting.{Waiting, having_seen}

-- what waits, the oldest first, and how much may wait
pub record Bags : Type 0 where
  pub waiting : List Waiting
  pub room : ℕ

-- the next bag has seen two changes, the previous one has seen one, the current one none
abbrev pub waiting_of : List LimboEntry → List LimboEntry → List LimboEntry → List Waiting
waiting_of next prev current = map (having_seen 2) next ++ map (having_seen 1) prev ++ map (having_seen 0) current

-- The private items of a participant, by their slots
use Rattle.std.specs.Prelude.{ℕ, Bool, map, option_map}
use Rattle.sdd_participants.specs.Slab.{Entries}
use Rattle.sdd_participants.specs.declared.standing.Standing.{Standing}
use Rattle.sdd_participants.specs.declared.standing.Standing.TheVariants.{Private}

-- for which collector the item of each slot waits, where it does, and whether none was ever put in
pub record PrivateEntries : Type 0 where
  pub entries : Entries ℕ
  pub unused : Bool

-- how the items stand that wait for a collector; of others nothing is known here
abbrev pub standings_of : Entries ℕ → Entries Standing
standings_of = map (option_map Private)

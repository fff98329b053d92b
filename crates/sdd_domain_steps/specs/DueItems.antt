-- What an opening took out of the bags
use Rattle.std.specs.Prelude.{ℕ, List}
use Rattle.sdd_participants.specs.declared.waiting.LimboEntry.{LimboEntry}

-- what is still to be reclaimed, the oldest first, and for how much there is room
pub record Pending : Type 0 where
  pub items : List LimboEntry
  pub room : ℕ

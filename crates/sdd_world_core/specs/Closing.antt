-- What the closing of a world asks of its core
use Rattle.std.specs.Prelude.{ℕ, All, IsNone}
use Rattle.sdd_participants.specs.declared.participant.CountdownState.{CountdownState}
use Rattle.sdd_participants.specs.EpochState.{paced_at}
use Rattle.sdd_world_model.specs.World.{World}

module _ {T : Type 0} where
  -- every slot and every cell is free
  abbrev pub NothingIsOut : World T → Type 0
  NothingIsOut w = All (λ slot. IsNone slot) w.standings × All (λ cell. IsNone cell) w.cells

  -- p found this count last, and this is its countdown
  abbrev pub paced : World T → ℕ → CountdownState → World T
  paced w p pace = record w { time = paced_at w.time p pace }

use Rattle.std.proofs.Common.{◌≡◌, ℕ, ◌<◌, None, length}
use Rattle.sdd_participants.specs.EpochState.{phase_at}
use Rattle.sdd_participants.proofs.epoch_state.EpochState.some_taken.Given as goal

-- the places so far are free
abbrev pub invariant-loop-place : goal.invariant-loop-place
invariant-loop-place l = record {
  none : (p : ℕ) → p < l.place → phase_at l.self p ≡ None;
  end : l.place-end ≡ length l.self.places;
}

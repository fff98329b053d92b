use Rattle.std.proofs.Common.{◌≡◌, length}
use Rattle.sdd_participants.specs.EpochState.{adopted_below}
use Rattle.sdd_participants.proofs.Adoptions.{Adopts}
use Rattle.sdd_participants.proofs.epoch_state.EpochState.adopt.Given as goal

-- what the places so far left is adopted
abbrev pub invariant-loop-from : goal.invariant-loop-from
invariant-loop-from l = record {
  so_far : l.self ≡ adopted_below l.fn.self l.place l.from;
  adopts : Adopts l.place l.fn.self l.self;
  end : l.from-end ≡ length l.fn.self.places;
}

use Rattle.std.proofs.Common.{◌≡◌, ◌++◌, map, length, take, drop, vec_capacity}
use Rattle.sdd_participants.specs.Collecting.{is_kept_for, chosen_among, without}
use Rattle.sdd_participants.proofs.epoch_state.EpochState.take_for.Given as goal

-- what waits for the collector with the places so far was taken
abbrev pub invariant-loop-place : goal.invariant-loop-place
invariant-loop-place g l = record {
  left : l.self ≡ record l.fn.self {
    places = map (without (is_kept_for l.collector (g.S.StandingLookup.standings l.standings)))
        (take l.place l.fn.self.places) ++ drop l.place l.fn.self.places;
  };
  taken : l.bag.items ≡ chosen_among (is_kept_for l.collector (g.S.StandingLookup.standings l.standings)) (take l.place l.fn.self.places);
  reserved : vec_capacity l.bag ≡ vec_capacity l.fn.bag;
  end : l.place-end ≡ length l.fn.self.places;
}

use Rattle.std.proofs.Common.{◌≡◌}
use Rattle.sdd_space.specs.Owned.{slot_of, slots_home}
use Rattle.sdd_bench.proofs.turns.round_trips.Given as goal

abbrev pub invariant-loop-turn : goal.invariant-loop-turn
invariant-loop-turn g l = record {
  caller : g.S.Caller.caller l.space ≡ g.S.Caller.caller l.fn.space;
  own : g.S.Caller.own l.space ≡ g.S.Caller.own l.fn.space;
  world : g.S.Caller.world l.space ≡ g.S.Caller.world l.fn.space;
  home : slots_home l.owner ≡ (g.S.Caller.caller l.fn.space).home.slots;
  same : slot_of l.owner ≡ slot_of l.fn.owner;
}

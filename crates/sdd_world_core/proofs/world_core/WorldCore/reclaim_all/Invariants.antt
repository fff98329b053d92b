use Rattle.std.proofs.Common.{◌≡◌, ◌+◌, ◌<◌, ◌≤◌, length, drop}
use Rattle.sdd_world_model.specs.World.{most, weight, KeepsSizes}
use Rattle.sdd_participants.specs.Jobs.{jobs_without_all}
use Rattle.sdd_world_model.specs.WorldChanges.{all_reclaimed}
use Rattle.sdd_world_core.proofs.world_core.WorldCore.reclaim_all.Given as goal

-- to reclaim what is left is to reclaim all, and there is room for it
abbrev pub invariant-loop-what : goal.invariant-loop-what
invariant-loop-what g l = record {
  rest : all_reclaimed g.T.Item.holds l.self.world l.place (drop l.what-index l.due) ≡ all_reclaimed g.T.Item.holds l.fn.self.world l.fn.place
      l.fn.due;
  room : weight l.self.world + length (drop l.what-index l.due) ≤ most l.self.world;
  place : l.place < length l.self.world.time.places;
  sizes : KeepsSizes l.fn.self.world l.self.world;
  lending : l.self.lending ≡ l.fn.self.lending;
  jobs : jobs_without_all l.self.deferred (drop l.what-index l.due) ≡ jobs_without_all l.fn.self.deferred l.fn.due;
}

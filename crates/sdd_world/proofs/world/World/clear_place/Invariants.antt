use Rattle.std.proofs.Common.{◌≡◌, ℕ, ◌<◌, List, length}
use Rattle.sdd_world_model.specs.World.{AnyGuardOpen, place_at}
use Rattle.sdd_world.specs.Closing.{all_aged_out}
use Rattle.sdd_world.proofs.Closing.{ahead, MovesWaiting}
use Rattle.sdd_world.proofs.world.World.clear_place.Given as goal

-- such changes were made, and only what waits with the place is another
abbrev pub invariant-loop-self : goal.invariant-loop-self
invariant-loop-self g l = record {
  changes : (places : List ℕ) × (l.self ≡ all_aged_out g.T.Item.holds l.fn.self places);
  place : l.place < length l.self.time.places;
  only : MovesWaiting l.place l.fn.self l.self;
  home : l.self.home ≡ l.fn.self.home;
  quiet : ¬ (AnyGuardOpen l.self);
}

abbrev pub decreases-loop-self : goal.decreases-loop-self
decreases-loop-self g l = ahead (place_at l.self l.place).bags.waiting l.self

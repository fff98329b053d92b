use Rattle.std.proofs.Common.{◌≡◌, ℕ, List, length}
use Rattle.sdd_world_model.specs.World.{AnyGuardOpen}
use Rattle.sdd_world.specs.Closing.{all_aged_out}
use Rattle.sdd_world.proofs.Closing.{emptied_to}
use Rattle.sdd_world.proofs.world.World.clear.Given as goal

-- such changes were made, and nothing waits with the places so far
abbrev pub invariant-loop-place : goal.invariant-loop-place
invariant-loop-place g l = record {
  changes : (places : List ℕ) × (l.self ≡ all_aged_out g.T.Item.holds l.fn.self places);
  time : l.self.time ≡ emptied_to l.fn.self.time l.place;
  home : l.self.home ≡ l.fn.self.home;
  quiet : ¬ (AnyGuardOpen l.self);
  end : l.place-end ≡ length l.fn.self.time.places;
}

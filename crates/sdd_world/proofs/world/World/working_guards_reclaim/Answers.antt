use Rattle.sdd_world_model.proofs.WorkingGuards.{working-guards-reclaim, working-guards-pass, busy-guards-count}
use Rattle.sdd_world.proofs.world.World.working_guards_reclaim.Goals as goal

pub returns : goal.returns
returns g c = let h = g.T.Item.holds in let w = c.args.self.now in let whole = c.is_whole.ensures in record {
  reclaimed = working-guards-reclaim h w whole;
  passed = working-guards-pass h w whole;
  counted = busy-guards-count h w whole;
}

use Rattle.sdd_world_model.proofs.WorkingGuards.{working-guards-reclaim, working-guards-pass, busy-guards-count}
use Rattle.sdd_domain_steps.specs.Local.{world_of}
use Rattle.sdd_domain.proofs.local.Local.working_guards_reclaim.Goals as goal

pub returns : goal.returns
returns g c = let h = g.T.Item.holds in let w = world_of c.args.self.now in record {
  reclaimed = λ one. working-guards-reclaim h w (c.is_whole.ensures.whole one);
  passed = λ one. working-guards-pass h w (c.is_whole.ensures.whole one);
  counted = λ one. busy-guards-count h w (c.is_whole.ensures.whole one);
}

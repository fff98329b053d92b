use Rattle.sdd_world_model.proofs.UnderGuards.{keeps-under-guards, keeps-collected-under-guards, keeps-fresh-under-guards}
use Rattle.sdd_world_model.proofs.JobsUnderGuards.{keeps-jobs-under-guards, keeps-fresh-jobs-under-guards}
use Rattle.sdd_domain_steps.specs.Local.{world_of}
use Rattle.sdd_domain.proofs.local.Local.keeps_under_guards.Goals as goal

pub returns : goal.returns
returns g c = let w = world_of c.args.self.now in record {
  retired = λ one. keeps-under-guards g.T.Item.holds w (c.is_whole.ensures.whole one);
  collected = λ one. keeps-collected-under-guards g.T.Item.holds w (c.is_whole.ensures.whole one);
  fresh = λ one. keeps-fresh-under-guards g.T.Item.holds w (c.is_whole.ensures.whole one);
  deferred = λ one. keeps-jobs-under-guards g.T.Item.holds w (c.is_whole.ensures.whole one);
  fresh_jobs = λ one. keeps-fresh-jobs-under-guards g.T.Item.holds w (c.is_whole.ensures.whole one);
}

use Rattle.sdd_world_model.proofs.UnderGuards.{keeps-under-guards, keeps-collected-under-guards, keeps-fresh-under-guards}
use Rattle.sdd_world_model.proofs.JobsUnderGuards.{keeps-jobs-under-guards, keeps-fresh-jobs-under-guards}
use Rattle.sdd_world.proofs.world.World.keeps_under_guards.Goals as goal

pub returns : goal.returns
returns g c =
    let now = c.args.self.now in
    let whole = c.is_whole.ensures in
    record {
      retired = keeps-under-guards g.T.Item.holds now whole;
      collected = keeps-collected-under-guards g.T.Item.holds now whole;
      fresh = keeps-fresh-under-guards g.T.Item.holds now whole;
      deferred = keeps-jobs-under-guards g.T.Item.holds now whole;
      fresh_jobs = keeps-fresh-jobs-under-guards g.T.Item.holds now whole;
    }

use Rattle.sdd_world_model.proofs.GoesAtLatest.{goes-at-latest, goes-in-time}
use Rattle.sdd_domain_steps.specs.Local.{world_of}
use Rattle.sdd_domain.proofs.local.Local.reclaims_in_time.Goals as goal

pub returns : goal.returns
returns g c = let w = world_of c.args.self.now in record {
  latest = λ one. goes-at-latest g.T.Item.holds w (c.is_whole.ensures.whole one);
  in_time = λ one. goes-in-time g.T.Item.holds w (c.is_whole.ensures.whole one);
}

use Rattle.sdd_world_model.proofs.GoesAtLatest.{goes-at-latest, goes-in-time}
use Rattle.sdd_world.proofs.world.World.reclaims_in_time.Goals as goal

pub returns : goal.returns
returns g c = let h = g.T.Item.holds in let w = c.args.self.now in let whole = c.is_whole.ensures in
    record { latest = goes-at-latest h w whole; in_time = goes-in-time h w whole }

use Rattle.std.proofs.Common.{ℕ}
use Rattle.sdd_world_model.proofs.GuardClosed.{goes-up, how-closed, inner-count, own-closed}
use Rattle.sdd_participants.specs.EpochState.{closed}
use Rattle.sdd_world.proofs.turn.TurnGuards.close_guard.Goals as goal

pub returns-clause-own : goal.returns-clause-own
returns-clause-own g c = rw (c.close.ensures.closed, c.world.view_is) (own-closed c.args.self.now.world.now.time c.args.self.now.place c.requires.seated)

pub returns-clause-known : goal.returns-clause-known
returns-clause-known g c =
    let t = c.args.self.now.world.now.time in
    let p : ℕ = c.args.self.now.place in
    let up = goes-up t.count (closed t p).count (how-closed t p c.requires.seated).goes_on in
    rw (c.close.ensures.closed, c.world.view_is) (record { told = up.0; near = λ _. up.1; inner = λ o. inner-count t p c.requires.seated o })

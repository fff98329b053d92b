use Rattle.std.proofs.Common.{ℕ, refl, arith}
use Rattle.sdd_participants.specs.EpochState.{is_open}
use Rattle.sdd_world_model.specs.World.{place_at}
use Rattle.sdd_world_model.proofs.ParticipantChanges.{opens}
use Rattle.sdd_world.proofs.turn.TurnGuards.new_guard.Goals as goal

pub returns-clause-own : goal.returns-clause-own
returns-clause-own g c =
    let w = c.args.self.now.world.now in
    let p : ℕ = c.args.self.now.place in
    let o = opens g.T.Item.holds w p c.requires.seated.0 (is_open (place_at w p)) refl in
    let few = c.can_nest.ensures.0 c.if-not-can_nest.false in (
      rw c.time.ensures at few,
      record { count = w.time.count; given = o.slots; own = rw (c.open-section.ensures.opened, c.world.view_is) o.own; from_due = o.from_due },
    )

pub returns-clause-known : goal.returns-clause-known
returns-clause-known g c =
    let w = c.args.self.now.world.now in
    let p : ℕ = c.args.self.now.place in
    let o = opens g.T.Item.holds w p c.requires.seated.0 (is_open (place_at w p)) refl in
    rw (c.open-section.ensures.opened, c.world.view_is) (record {
      inner = λ _. record { told = omega (arith, o.count); since = o.count };
      outermost =
          λ closed. let found = o.found closed in record {
            known = omega (arith, found);
            told = omega (arith, found, o.count);
            since = omega
                (arith, found, o.count);
            near = omega arith;
          };
    })

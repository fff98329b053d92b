use Rattle.std.proofs.Common.{◌<◌, ◌++◌, ap, ◌∙◌, sym, length, arith}
use Rattle.std.proofs.lemmas.Grind.{common_steps}
use Rattle.sdd_participants.specs.EpochState.{without_waiting, place_at, with_place}
use Rattle.sdd_world.specs.Closing.{all_aged_out}
use Rattle.sdd_world.proofs.Closing.{all_aged_out-append, emptied_to-more, emptied-guards}
use Rattle.sdd_world_core.proofs.NoGuards.{quiet-same}
use Rattle.sdd_world.proofs.world.World.clear.Goals as goal

pub loop-place-preserved : goal.loop-place-preserved
loop-place-preserved g c =
    let holds = g.T.Item.holds in
    let was = c.loop-place.invariant in
    let step = c.clear_place.ensures in
    let place = c.loop-place.place in
    let old = c.loop-place.self in
    let new = c.clear_place.new.self in
    let within : place < length c.args.self.now.time.places = omega (arith, was.end, c.loop-place-test.true) in
    let here : place < length c.loop-place.self.time.places = grind (arith, common_steps) in
    record {
      changes = (
        was.changes.0 ++ step.changes.0,
        step.changes.1 ∙ ap (λ w. all_aged_out holds w step.changes.0) was.changes.1
            ∙ sym (all_aged_out-append holds c.args.self.now was.changes.0 step.changes.0),
      );
      time = step.time ∙ ap (λ t. with_place t place (without_waiting (place_at t place))) was.time ∙ emptied_to-more c.args.self.now.time place within;
      home = step.home ∙ was.home;
      quiet = quiet-same old new (emptied-guards old new place here step.time) was.quiet;
      end = was.end;
    }

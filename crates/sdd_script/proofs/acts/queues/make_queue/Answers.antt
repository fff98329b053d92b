use Rattle.sdd_script.proofs.Words.{length, ap, ◌∙◌, got, nobody}
use Rattle.sdd_script_text.specs.Actions as call
use Rattle.sdd_script.proofs.QueueActs.{acts-no_cells, acts-queue_begun}
use Rattle.sdd_script.proofs.acts.queues.make_queue.Goals as goal

pub returns-in_default : goal.returns-in_default
returns-in_default c = record {
  acts = rw (← c.interpreter.view_is) (nobody c.interpreter.inside.environment c.args.name call.Queue c.in_default.ensures
      (λ valid. valid));
}

pub returns-in-Err : goal.returns-in-Err
returns-in-Err c =
    let h = c.interpreter.inside.environment in
    let refused = c.in-Err.ensures.done.1 in
    record {
      acts = rw (refused.1, refused.2, c.make_room.ensures.kept, ← c.interpreter.view_is)
          (acts-no_cells h c.interpreter.invariant c.is_whole.ensures c.args.name _ (got h.places c.args.name.0 _ c.in-Some.ensures) refused.0);
    }

pub invariant_of-interpreter-in-Ok : goal.invariant_of-interpreter-in-Ok
invariant_of-interpreter-in-Ok c =
    let h = c.interpreter.inside.environment in
    let made = c.in-Ok.ensures.done.1 in
    (acts-queue_begun h c.interpreter.invariant c.is_whole.ensures c.args.name _ (got h.places c.args.name.0 _ c.in-Some.ensures) _
    c.give-name.new.self.entries _ (record { 0 = c.give-name.result }) made.0 made.1 made.2 made.3 c.in-Ok.ensures.done.0
    (rw c.make_room.ensures.kept at c.give-name.ensures.given) (c.give-name.ensures.name ∙ ap length c.make_room.ensures.kept)).0

pub returns-in-Ok : goal.returns-in-Ok
returns-in-Ok c =
    let h = c.interpreter.inside.environment in
    let made = c.in-Ok.ensures.done.1 in
    record {
      acts = rw (← c.interpreter.view_is) (acts-queue_begun h c.interpreter.invariant c.is_whole.ensures c.args.name _
          (got h.places c.args.name.0 _ c.in-Some.ensures) _ c.give-name.new.self.entries _ (record { 0 = c.give-name.result }) made.0 made.1
          made.2 made.3 c.in-Ok.ensures.done.0 (rw c.make_room.ensures.kept at c.give-name.ensures.given)
          (c.give-name.ensures.name ∙ ap length c.make_room.ensures.kept)).1;
    }

use Rattle.sdd_script.proofs.Words.{length, refl, ap, ◌∙◌, At, Answers, Environment, IsTied, state_of, slots_among, answers-plain, attends, here, place-is, sits, still, places-inside, with_dates}
use Rattle.sdd_script_text.specs.Actions as call
use Rattle.sdd_script_text.specs.declared.answer.Reply.TheVariants as reply
use Rattle.sdd_script_model.proofs.ReclaimedSlots.{slots-inside}
use Rattle.sdd_script.proofs.GuardActs.{noted-is, answers-opened}
use Rattle.sdd_script.proofs.acts.guards.open.Goals as goal

pub due-requires : goal.due-requires
due-requires c =
    let d = state_of c.interpreter.inside.environment in
    let at = here c.args.name.0 c.interpreter.invariant c.is_whole.ensures c.in-Some.ensures in
    record {
      small = at.tied.sound.stocked.few;
      named = slots-inside d _ at.tied.sound.stocked c.is_whole.ensures _ (ap slots_among c.reclaims_next-waiting.ensures);
      inside = rw c.reclaims_next-waiting.ensures (places-inside d at.tied.sound at.whole _ (sits at));
    }

pub returns-in-Err : goal.returns-in-Err
returns-in-Err c =
    let at = here c.args.name.0 c.interpreter.invariant c.is_whole.ensures c.in-Some.ensures in
    let refused = c.in-Err.ensures.done.1 in
    record {
      answers = rw (
        c.answer-in-Err.ensures,
        refused.0,
        refused.2,
        c.make_room.ensures.kept,
        ← c.interpreter.view_is,
      ) (answers-plain (At c.args.name call.Open) _
          (still (state_of c.interpreter.inside.environment) _ _ (attends at, rw (place-is at) (refused.1, refl))) (λ s e. e) (λ k e. e));
    }

abbrev left : goal.After-drop-due-2 → Environment
left c = record (with_dates c.interpreter.inside.environment c.date_new.new.dates) {
  world = c.at.new.world;
  places = c.note_opening.new.places;
  guards = c.give-name.new.self;
}

opened : (c : goal.After-drop-due-2) → IsTied (left c) × Answers (state_of c.interpreter.inside.environment) (At c.args.name call.Open)
    (record {
      reply = reply.Guard (record { 0 = c.give-name.result }) c.in-Ok.opened.1;
      reclaimed = c.in_ok-due.due.items.items;
      ran = c.in_ok-due.due.jobs.items;
    })
    (state_of (left c))
opened c =
    let at = here c.args.name.0 c.interpreter.invariant c.is_whole.ensures c.in-Some.ensures in
    let noted = noted-is c.args.name at _ _ c.is_open-is_nested.ensures c.note_opening.ensures in
    let given = rw c.make_room.ensures.kept at c.give-name.ensures.given in
    let moved = c.in_ok-due.ensures.items.0 in
    let jobs = rw c.reclaims_next-waiting.ensures at c.in_ok-due.ensures.jobs.0 in
    answers-opened c.args.name at _ c.note_opening.new.places.entries c.give-name.new.self.entries c.date_new.new.dates _ _
    (ap slots_among c.reclaims_next-waiting.ensures) noted given c.index-place.ensures c.in-Ok.ensures.done.0 refl refl c.in-Ok.ensures.done.1.1
    (rw (← c.interpreter.view_is) at c.requires.line) _ c.in_ok-due.ensures.each
    (rw c.as_slice.ensures.value at c.date_new.ensures.dated, c.date_new.ensures.long) c.in_ok-due.due.items.items _ _ moved c.in_ok-due.ensures.items.1
    c.in-Ok.ensures.done.1.0 (c.give-name.ensures.name ∙ ap length c.make_room.ensures.kept) c.in-Ok.ensures.done.1.2 _ jobs c.in_ok-due.ensures.jobs.1

pub invariant_of-interpreter-2 : goal.invariant_of-interpreter-2
invariant_of-interpreter-2 c = (opened c).0

pub returns : goal.returns
returns c = record { answers = rw (← c.interpreter.view_is, c.of.ensures, c.of-2.ensures) (opened c).1 }

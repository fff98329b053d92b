use Rattle.sdd_script.proofs.Words.{take_more, take_all, length, ap, arith, holdings_of, length_push, subst, Answers, Register, ScriptState, Runs, later, slice_index_or, sound-later, state_of}
use Rattle.sdd_world_model.specs.ReclaimBound.{GoesInTime}
use Rattle.sdd_script_model.proofs.Due.{run-due}
use Rattle.sdd_script_model.proofs.Runs.{runs-push}
use Rattle.sdd_script.proofs.runner.run.Goals as goal

-- a line is one later, and all that is always true of a script is true of it at its begin
pub invariant_of-interpreter : goal.invariant_of-interpreter
invariant_of-interpreter c = record {
  sound = sound-later (state_of c.interpreter.inside.environment) c.interpreter.invariant.sound;
  guards = c.interpreter.invariant.guards;
}

pub loop-call-preserved : goal.loop-call-preserved
loop-call-preserved c =
    let before = c.loop-call.invariant in
    let pushed = c.push_reserved.ensures.items in
    let call = slice_index_or c.args.calls.now c.loop-call.call-index Register in
    let answers = subst (λ (d : ScriptState). Answers (later d) call c.in-Ok-answer_to.answer c.answer_to.new.interpreter) c.interpreter.view_is
    c.in-Ok-answer_to.ensures.answers in
    let in_time =
    subst (λ (d : ScriptState). GoesInTime holdings_of d.world) c.interpreter-in-Ok-answer_to.view_is c.reclaims_in_time.ensures.in_time in
    record {
      runs = rw (take_more c.args.calls.now c.loop-call.call-index Register c.loop-call-test.true, pushed)
          (runs-push _ _ _ _ _ _ _ before.runs answers in_time);
      moment = omega (arith, answers.acts.line, before.moment);
      answered = omega (arith, ap length pushed, length_push c.loop-call.answers.items c.in-Ok-answer_to.answer, before.answered);
      room = omega (arith, before.room, c.push_reserved.ensures.capacity);
    }

pub returns-clause-run : goal.returns-clause-run
returns-clause-run c =
    let done = c.loop-call-test.false in
    let all = rw (take_all c.loop-call.call-index c.args.calls.now (omega (arith, done))) at c.loop-call.invariant.runs in
    let runs : Runs c.in_ok-interpreter.interpreter c.args.calls.now c.loop-call.answers.items c.of.result = rw (← c.of.ensures) at all in
    record {
      start = c.in_ok-interpreter.interpreter;
      begins = c.in_ok-interpreter.ensures.start;
      runs = runs;
      due = run-due c.args.limits c.in_ok-interpreter.interpreter c.args.calls.now c.loop-call.answers.items c.of.result c.in_ok-interpreter.ensures.start runs;
    }

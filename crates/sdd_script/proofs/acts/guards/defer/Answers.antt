use Rattle.sdd_script.proofs.Words.{◌+◌, refl, arith, At, state_of, Does, leaves, place-is, sits, under, deferred-leaves}
use Rattle.std.specs.Vec.{with_item}
use Rattle.sdd_script_text.specs.Actions as call
use Rattle.sdd_script_text.specs.declared.answer.Reply.TheVariants as reply
use Rattle.sdd_script.proofs.acts.guards.defer.Goals as goal

pub overflow_add-interpreter : goal.overflow_add-interpreter
overflow_add-interpreter c = let line = rw (← c.interpreter.view_is) at c.requires.line in omega (arith, line.jobs)

deferred : (c : goal.After-interpreter-3-1) → Does (state_of c.interpreter.inside.environment) (At c.args.name (call.Defer c.args.guard))
    (reply.Job (record { 0 = c.interpreter.inside.environment.log.jobs })) (record c.interpreter.inside.environment {
      world = c.defer_at.new.world;
      log = record c.interpreter.inside.environment.log {
        deferred = with_item c.interpreter.inside.environment.log.deferred c.in-Ok.place c.interpreter.inside.environment.log.jobs;
        job_dates = with_item c.interpreter.inside.environment.log.job_dates c.in-Ok.place c.interpreter.inside.environment.log.moment;
        jobs = c.interpreter.inside.environment.log.jobs + 1;
      };
    })
deferred c =
    let at = under c.args.name.0 c.interpreter.invariant c.is_whole.ensures c.in-Some.ensures.found.0 in
    let taken = c.in-Ok.ensures.deferred in
    let line = rw (← c.interpreter.view_is) at c.requires.line in
    leaves at refl (simp taken.1) (deferred-leaves (state_of c.interpreter.inside.environment) at.tied.sound at.whole _ _ (sits at) taken.0 line.jobs)
    (c.in-Some.ensures.valid, rw (place-is at) (refl, (_, taken.0, refl)))

pub invariant_of-interpreter-2 : goal.invariant_of-interpreter-2
invariant_of-interpreter-2 c = (deferred c).0

pub returns : goal.returns
returns c = record { acts = rw (← c.interpreter.view_is) (deferred c).1 }

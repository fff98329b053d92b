use Rattle.sdd_script.proofs.Words.{refl, map_push, At, collector_holding, state_of, Does, attends, here, leaves, next, sits, collecting-leaves}
use Rattle.sdd_script_text.specs.Actions as call
use Rattle.sdd_script_text.specs.declared.answer.Reply.TheVariants as reply
use Rattle.sdd_script.proofs.acts.collectors.make_collector.Goals as goal

made : (c : goal.After-give-name) → Does (state_of c.interpreter.inside.environment) (At c.args.name call.Collector)
    (reply.Collector (record { 0 = c.give-name.result }))
    (record c.interpreter.inside.environment { world = c.at.new.world; collectors = c.give-name.new.self })
made c =
    let at = here c.args.name.0 c.interpreter.invariant c.is_whole.ensures c.in-Some.ensures in
    let out = c.in-Ok.ensures.done.1 in
    leaves at refl (simp (out.1, c.give-name.ensures.given, c.make_room.ensures.kept, map_push, c.in-Ok.ensures.done.0))
    (collecting-leaves (state_of c.interpreter.inside.environment) at.tied.sound at.whole _ _ (sits at) out.0)
    (attends at, (next collector_holding c.give-name.ensures.name c.make_room.ensures.kept, (_, out.0, refl)))

pub invariant_of-interpreter-in-Ok : goal.invariant_of-interpreter-in-Ok
invariant_of-interpreter-in-Ok c = (made c).0

pub returns-in-Ok : goal.returns-in-Ok
returns-in-Ok c = record { acts = rw (← c.interpreter.view_is) (made c).1 }

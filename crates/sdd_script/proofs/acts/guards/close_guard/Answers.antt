use Rattle.sdd_script.proofs.Words.{sym, At, state_of, Does, under}
use Rattle.sdd_script_text.specs.Actions as call
use Rattle.sdd_script_text.specs.declared.answer.Reply.TheVariants as reply
use Rattle.sdd_script.proofs.GuardActs.{acts-closed}
use Rattle.sdd_script.proofs.acts.guards.close_guard.Goals as goal

closed : (c : goal.After-at) → Does (state_of c.interpreter.inside.environment) (At c.args.name (call.Close c.args.guard)) reply.Done
    (record c.interpreter.inside.environment { world = c.at.new.world; guards = c.take.new.self })
closed c =
    acts-closed c.args.name (under c.args.name.0 c.interpreter.invariant c.is_whole.ensures c.in-Some.ensures.found.0) c.args.guard _ c.take.new.self.entries _
    c.in-Some.ensures.valid (sym c.in-Some-take.ensures.taken) c.in-Some-take.ensures.spent c.at.ensures.done

pub invariant_of-interpreter-2 : goal.invariant_of-interpreter-2
invariant_of-interpreter-2 c = (closed c).0

pub returns : goal.returns
returns c = record { acts = rw (← c.interpreter.view_is) (closed c).1 }

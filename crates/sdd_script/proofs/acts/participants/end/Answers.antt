use Rattle.sdd_script.proofs.Words.{At, state_of, Does, here}
use Rattle.sdd_script_text.specs.Actions as call
use Rattle.sdd_script_text.specs.declared.answer.Reply.TheVariants as reply
use Rattle.sdd_script.proofs.GuardActs.{acts-ended}
use Rattle.sdd_script.proofs.acts.participants.end.Goals as goal

ended : (c : goal.In-Ok) → Does (state_of c.interpreter.inside.environment) (At c.args.name call.End) reply.Done
    (record c.interpreter.inside.environment { world = c.end.new.self; places = c.take.new.self })
ended c =
    acts-ended c.args.name (here c.args.name.0 c.interpreter.invariant c.is_whole.ensures c.in-Some-take.ensures.taken) _
    c.take.new.self.entries c.in-Some-take.ensures.spent c.in-Ok.ensures.ended.0 c.in-Ok.ensures.ended.1

pub invariant_of-interpreter-2 : goal.invariant_of-interpreter-2
invariant_of-interpreter-2 c = (ended c).0

pub returns : goal.returns
returns c = record { acts = rw (← c.interpreter.view_is) (ended c).1 }

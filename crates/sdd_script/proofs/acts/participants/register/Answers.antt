use Rattle.sdd_script.proofs.Words.{length, ap, ◌∙◌, Register, state_of, Does}
use Rattle.sdd_script_text.specs.declared.answer.Reply.TheVariants as reply
use Rattle.sdd_script.proofs.GuardActs.{acts-registered}
use Rattle.sdd_script.proofs.acts.participants.register.Goals as goal

registered : (c : goal.After-give-name) → Does (state_of c.interpreter.inside.environment) Register (reply.Place (record { 0 = c.give-name.result }))
    (record c.interpreter.inside.environment { world = c.register.new.self; places = c.give-name.new.self })
registered c =
    acts-registered _ c.interpreter.invariant c.is_whole.ensures c.give-name.new.self.entries _ _ (rw c.make_room.ensures.kept at c.give-name.ensures.given)
    c.in-Ok.ensures.registered.0 c.in-Ok.ensures.registered.1 _ (c.give-name.ensures.name ∙ ap length c.make_room.ensures.kept)

pub invariant_of-interpreter-in-Ok : goal.invariant_of-interpreter-in-Ok
invariant_of-interpreter-in-Ok c = (registered c).0

pub returns-in-Ok : goal.returns-in-Ok
returns-in-Ok c = record { acts = rw (← c.interpreter.view_is) (registered c).1 }

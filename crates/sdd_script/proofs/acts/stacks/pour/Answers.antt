use Rattle.sdd_script.proofs.Words.{length, ap, ◌∙◌, NoCell, At, state_of, Does, does, goes, invalid, no-stack, stack-home}
use Rattle.sdd_script_text.specs.Actions as call
use Rattle.sdd_script_text.specs.declared.answer.Reply.TheVariants as reply
use Rattle.sdd_script.proofs.StackActs.{acts-pour_refused, acts-poured, stack-entries}
use Rattle.sdd_script.proofs.acts.stacks.pour.Goals as goal

pub returns-in_default : goal.returns-in_default
returns-in_default c = record {
  acts = rw (← c.interpreter.view_is) (invalid _ _ _ (λ valid. c.in_default.ensures.valid valid.0));
}

pub returns-in_default-get : goal.returns-in_default-get
returns-in_default-get c =
    let none = rw c.make_room.ensures.kept at c.in_default-get.ensures in record {
      acts = rw (c.make_room.ensures.kept, ← c.interpreter.view_is) (invalid _ _ _
          (λ valid. no-stack c.interpreter.inside.environment c.args.stack.0 none valid.1));
    }

pub at-requires-clause-asked : goal.at-requires-clause-asked
at-requires-clause-asked c =
    let mine = rw c.make_room.ensures.kept at c.in-Some-get.ensures in stack-home c.interpreter.inside.environment c.interpreter.invariant c.args.stack.0 _ mine

pub returns-in-Err : goal.returns-in-Err
returns-in-Err c =
    let h = c.interpreter.inside.environment in
    let mine = rw c.make_room.ensures.kept at c.in-Some-get.ensures in
    let its = stack-entries h c.interpreter.invariant c.args.stack.0 _ mine in
    let refused = c.in-Err.ensures.done.1 its.0 its.1.list in
    record {
      acts = rw (refused.1, refused.2, c.make_room.ensures.kept, ← c.interpreter.view_is)
          (acts-pour_refused h c.interpreter.invariant c.is_whole.ensures c.args.name _ c.in-Some.ensures.found.0 c.args.stack _ mine c.args.guard
          c.in-Some.ensures.valid refused.0);
    }

refused : (c : goal.In-Err) → Does (state_of c.interpreter.inside.environment) (At c.args.name (call.All c.args.stack c.args.guard)) (reply.Refused NoCell)
    (record c.interpreter.inside.environment { world = c.at.new.world; lists = record c.interpreter.inside.environment.lists { stacks = c.make_room.new.self } })
refused c =
    let h = c.interpreter.inside.environment in
    let mine = rw c.make_room.ensures.kept at c.in-Some-get.ensures in
    let its = stack-entries h c.interpreter.invariant c.args.stack.0 _ mine in
    let full = c.in-Err.ensures.done.1 its.0 its.1.list in
    let world = full.2 in
    does (state_of h) _ _ (goes (cc (world)) c.interpreter.invariant.sound c.interpreter.invariant.guards)
    (acts-pour_refused h c.interpreter.invariant c.is_whole.ensures c.args.name _ c.in-Some.ensures.found.0 c.args.stack _ mine c.args.guard
    c.in-Some.ensures.valid full.0)

pub invariant_of-interpreter-in-Err : goal.invariant_of-interpreter-in-Err
invariant_of-interpreter-in-Err c = (refused c).0

poured : (c : goal.After-give-name) → Does (state_of c.interpreter.inside.environment) (At c.args.name (call.All c.args.stack c.args.guard))
    (reply.Stack (record { 0 = c.give-name.result }))
    (record c.interpreter.inside.environment { world = c.at.new.world; lists = record c.interpreter.inside.environment.lists { stacks = c.give-name.new.self } })
poured c =
    let h = c.interpreter.inside.environment in
    let mine = rw c.make_room.ensures.kept at c.in-Some-get.ensures in
    let its = stack-entries h c.interpreter.invariant c.args.stack.0 _ mine in
    let made = c.in-Ok.ensures.done.1 its.0 its.1.list in
    acts-poured h c.interpreter.invariant c.is_whole.ensures c.args.name _ c.in-Some.ensures.found.0 c.args.stack _ mine c.args.guard c.in-Some.ensures.valid
    c.at.new.world c.give-name.new.self.entries _ (record { 0 = c.give-name.result }) made.0 made.1 c.in-Ok.ensures.done.0
    (rw c.make_room.ensures.kept at c.give-name.ensures.given) (c.give-name.ensures.name ∙ ap length c.make_room.ensures.kept)

pub invariant_of-interpreter-in-Ok : goal.invariant_of-interpreter-in-Ok
invariant_of-interpreter-in-Ok c = (poured c).0

pub returns-in-Ok : goal.returns-in-Ok
returns-in-Ok c = record { acts = rw (← c.interpreter.view_is) (poured c).1 }

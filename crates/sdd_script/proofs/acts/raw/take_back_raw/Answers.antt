use Rattle.sdd_script.proofs.Words.{refl, map_push, At, owner_holding, state_of, Does, attends, here, leaves, next, sits, back-leaves, nobody}
use Rattle.sdd_script_text.specs.Actions as call
use Rattle.sdd_script_text.specs.declared.answer.Reply.TheVariants as reply
use Rattle.sdd_script.proofs.RawActs.{there-from}
use Rattle.sdd_script.proofs.acts.raw.take_back_raw.Goals as goal

pub returns-in_default : goal.returns-in_default
returns-in_default c = record {
  acts = rw (← c.interpreter.view_is) (nobody c.interpreter.inside.environment c.args.name _ c.in_default.ensures
      (λ valid. valid.0));
}

back : (c : goal.After-give-name) → Does (state_of c.interpreter.inside.environment) (At c.args.name (call.Unraw c.args.item))
    (reply.Owner (record { 0 = c.give-name.result })) (record c.interpreter.inside.environment { world = c.at.new.world; owners = c.give-name.new.self })
back c =
    let at = here c.args.name.0 c.interpreter.invariant c.is_whole.ensures c.in-Some.ensures in
    let there = there-from c.interpreter.inside.environment c.args.item.0 c.in-Some-slot_since.ensures.0 in
    let done = rw c.in-Some-slot_since.ensures.1 at c.in-Some-at.ensures.done in
    leaves at refl (simp (done.1.1, c.give-name.ensures.given, c.make_room.ensures.kept, map_push, done.0.0, done.0.1))
    (back-leaves (state_of c.interpreter.inside.environment) at.tied.sound at.whole _ _ (sits at) done.1.0)
    ((attends at, there), (done.1.0, (next owner_holding c.give-name.ensures.name c.make_room.ensures.kept, refl)))

pub invariant_of-interpreter-in-Some-at : goal.invariant_of-interpreter-in-Some-at
invariant_of-interpreter-in-Some-at c = (back c).0

pub returns-in-Some-at : goal.returns-in-Some-at
returns-in-Some-at c = record { acts = rw (← c.interpreter.view_is) (back c).1 }

use Rattle.sdd_script.proofs.Words.{ap, is_some, refl, map_push, shared_slot, slot_of, At, state_of, owner_holding, Does, attends, here, leaves, next, sits, starts, still, named as named-as, owned-apart, owner-outside, shared-leaves, nobody}
use Rattle.sdd_script_text.specs.Actions as call
use Rattle.sdd_script_text.specs.declared.answer.Reply.TheVariants as reply
use Rattle.sdd_script.proofs.acts.owners.clone_owner.Goals as goal

pub returns-in_default : goal.returns-in_default
returns-in_default c = record {
  acts = rw (← c.interpreter.view_is) (nobody c.interpreter.inside.environment c.args.name _ c.in_default.ensures
      (λ valid. valid.0));
}

cloned : (c : goal.After-give-name) → Does (state_of c.interpreter.inside.environment) (At c.args.name (call.Clone c.args.owner))
    (reply.Owner (record { 0 = c.give-name.result })) (record c.interpreter.inside.environment { world = c.at.new.world; owners = c.give-name.new.self })
cloned c =
    let d = state_of c.interpreter.inside.environment in
    let at = here c.args.name.0 c.interpreter.invariant c.is_whole.ensures c.in-Some.ensures in
    let kept = c.make_room.ensures.kept in
    let owner = c.in-Ok.ensures.done.0 in
    let out = c.in-Ok.ensures.done.1 in
    let mine = named-as owner_holding c.interpreter.inside.environment.owners.entries.items c.args.owner.0 (rw kept at c.in-Some-shared_of.ensures) in
    let its = ap shared_slot mine in
    leaves at refl (simp (out.2.1, c.give-name.ensures.given, kept, map_push, owner.0, owner.1))
    (shared-leaves d at.tied.sound at.whole _ _ out.0 (sits at) out.1
    (owned-apart (starts d at.tied.sound at.whole) _ (owner-outside d c.args.owner.0 _ (ap slot_of mine))))
    ((attends at, ap is_some its), (_, its, (out.0, out.1, out.2.0, (next owner_holding c.give-name.ensures.name kept, refl))))

pub invariant_of-interpreter-in-Ok : goal.invariant_of-interpreter-in-Ok
invariant_of-interpreter-in-Ok c = (cloned c).0

pub returns-in-Ok : goal.returns-in-Ok
returns-in-Ok c = record { acts = rw (← c.interpreter.view_is) (cloned c).1 }

pub returns-in-Err : goal.returns-in-Err
returns-in-Err c =
    let at = here c.args.name.0 c.interpreter.invariant c.is_whole.ensures c.in-Some.ensures in
    let kept = c.make_room.ensures.kept in
    let full = c.in-Err.ensures.done.1 in
    let its = ap shared_slot (named-as owner_holding c.interpreter.inside.environment.owners.entries.items c.args.owner.0
    (rw kept at c.in-Some-shared_of.ensures)) in
    record {
      acts = rw (← c.interpreter.view_is, kept, full.2.2, full.2.1)
          (still (state_of c.interpreter.inside.environment) _ _ ((attends at, ap is_some its), (_, its, (rw full.2.0 at full.1, refl))));
    }

use Rattle.sdd_script.proofs.Words.{refl, At, state_of, owner_holding, Does, leaves, next, points, sits, stays-here, there-apart, under, shared-leaves}
use Rattle.sdd_script_text.specs.Actions as call
use Rattle.sdd_script_text.specs.declared.answer.Reply.TheVariants as reply
use Rattle.sdd_script.proofs.MadeItems.{shared-more}
use Rattle.sdd_script.proofs.acts.owners.upgrade.Goals as goal

pub share_item-requires-clause-stays : goal.share_item-requires-clause-stays
share_item-requires-clause-stays c =
    let found = c.in-Some.ensures.found in
    rw c.in-Some-slot_since.ensures.1 (stays-here (under c.args.name.0 c.interpreter.invariant c.is_whole.ensures found.0) c.args.guard.0 c.args.item.0 _
    found.1 found.2 (points c.interpreter.inside.environment c.args.name.0 _ found.0 c.args.item.0 c.in-Some-slot_since.ensures.0))

shared : (c : goal.After-give-name) → Does (state_of c.interpreter.inside.environment) (At c.args.name (call.Upgrade c.args.item c.args.guard))
    (reply.Owner (record { 0 = c.give-name.result })) (record c.interpreter.inside.environment { world = c.share_item.new.world; owners = c.give-name.new.self })
shared c =
    let d = state_of c.interpreter.inside.environment in
    let at = under c.args.name.0 c.interpreter.invariant c.is_whole.ensures c.in-Some.ensures.found.0 in
    let point = points c.interpreter.inside.environment c.args.name.0 _ at.there c.args.item.0 c.in-Some-slot_since.ensures.0 in
    let slot = c.in-Some-slot_since.ensures.1 in
    let owner = rw (c.in-Ok-Some.field-0-is, slot) at c.in-Ok-Some.ensures.owner in
    let out = rw (c.in-Ok-Some.field-0-is, slot) at c.in-Ok-Some.ensures.shared in
    let more =
    shared-more _ _ _ _ _ (rw c.make_room.ensures.kept at c.give-name.ensures.given) owner.0 owner.1 in
    leaves at refl (simp (out.3, more))
    (shared-leaves d at.tied.sound at.whole _ _ out.0 (sits at) out.1 (there-apart d at.tied.sound.bags c.args.item.0 point.0))
    ((c.in-Some.ensures.valid, point), (out.0, out.1, out.2, (next owner_holding c.give-name.ensures.name c.make_room.ensures.kept, refl)))

pub invariant_of-interpreter-in-Ok-Some : goal.invariant_of-interpreter-in-Ok-Some
invariant_of-interpreter-in-Ok-Some c = (shared c).0

pub returns-in-Ok-Some : goal.returns-in-Ok-Some
returns-in-Ok-Some c = record { acts = rw (← c.interpreter.view_is) (shared c).1 }

use Rattle.sdd_script.proofs.Words.{At, state_of, Does, stays-here, invalid, points, points-not, changing, name-given, under}
use Rattle.sdd_script_text.specs.declared.answer.Reply.TheVariants as reply
use Rattle.sdd_script.proofs.LinkActs.{acts-changed, valid-changing}
use Rattle.sdd_script.proofs.acts.links.change_link.Goals as goal

pub returns-in_default : goal.returns-in_default
returns-in_default c = record {
  acts = rw (← c.interpreter.view_is) (invalid _ _ _
      (λ valid. (let under = (valid-changing (state_of c.interpreter.inside.environment) c.args.name.0 c.args.change c.args.item valid).0 in
      c.in_default.ensures under.0 under.1)));
}

pub slot_since-requires-clause-inside : goal.slot_since-requires-clause-inside
slot_since-requires-clause-inside c s some =
    name-given _ c.interpreter.invariant.sound.stocked s some

pub returns-in_default-slot_since : goal.returns-in_default-slot_since
returns-in_default-slot_since c =
    let cannot = c.in_default-slot_since.ensures in
    record {
      acts = rw (← c.interpreter.view_is) (invalid _ _ _ (λ valid. points-not c.interpreter.inside.environment c.args.name.0 _ c.in-Some.ensures.0 c.args.item.0 cannot
          (valid-changing (state_of c.interpreter.inside.environment) c.args.name.0 c.args.change c.args.item valid).1));
    }

pub value_shown-entry-requires-clause-stays : goal.value_shown-entry-requires-clause-stays
value_shown-entry-requires-clause-stays c =
    let found = c.in-Some.ensures in
    let can = c.in-Some-slot_since.ensures.0 in
    let slot = c.in-Some-slot_since.ensures.1 in
    rw slot (stays-here (under c.args.name.0 c.interpreter.invariant c.is_whole.ensures found.0) found.2.0 c.args.item.0 _ found.2.1 found.1
    (points c.interpreter.inside.environment c.args.name.0 _ found.0 c.args.item.0 can))

changed : (c : goal.After-at) → Does (state_of c.interpreter.inside.environment) (At c.args.name (changing c.args.change c.args.item))
    (reply.Truth c.at.result) (record c.interpreter.inside.environment { world = c.at.new.world })
changed c =
    let found = c.in-Some.ensures in
    let can = c.in-Some-slot_since.ensures.0 in
    let slot = c.in-Some-slot_since.ensures.1 in
    let shown = rw slot at c.value_shown-entry.ensures.shown in
    let done = rw c.value_shown-entry.ensures.world at c.at.ensures.done in
    acts-changed c.interpreter.inside.environment c.interpreter.invariant c.args.item c.args.name c.value_shown-entry.result.now done.0
    ((found.2.0, found.2.2), points c.interpreter.inside.environment c.args.name.0 _ found.0 c.args.item.0 can) shown done.1
    c.is_whole.ensures _ found.0 c.args.change c.at.result c.at.new.world done.2 done.3

pub invariant_of-interpreter : goal.invariant_of-interpreter
invariant_of-interpreter c = (changed c).0

pub returns : goal.returns
returns c = record { acts = rw (← c.interpreter.view_is) (changed c).1 }

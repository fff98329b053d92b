use Rattle.sdd_script.proofs.Words.{At, state_of, Does, stays-here, invalid, points, points-not, name-given, under, with_dates}
use Rattle.sdd_core.specs.declared.tag.Tag.TheVariants.{None as no_tag}
use Rattle.sdd_script_text.specs.Actions as call
use Rattle.sdd_script_text.specs.declared.answer.Reply.TheVariants as reply
use Rattle.sdd_script.proofs.ContainerActs.{reader-is}
use Rattle.sdd_script.proofs.LinkActs.{acts-next, behind, next-named}
use Rattle.sdd_script.proofs.StackActs.{AreTold}
use Rattle.sdd_script.proofs.acts.links.next.Goals as goal

pub returns-in_default : goal.returns-in_default
returns-in_default c = record {
  acts = rw (← c.interpreter.view_is) (invalid _ _ _ (λ valid. c.in_default.ensures.valid valid.0));
}

pub slot_since-requires-clause-inside : goal.slot_since-requires-clause-inside
slot_since-requires-clause-inside c s some =
    name-given _ c.interpreter.invariant.sound.stocked s some

pub returns-in_default-slot_since : goal.returns-in_default-slot_since
returns-in_default-slot_since c =
    let cannot = c.in_default-slot_since.ensures in
    record {
      acts = rw (← c.interpreter.view_is)
          (invalid _ _ _ (λ valid. points-not c.interpreter.inside.environment c.args.name.0 _ c.in-Some.ensures.found.0 c.args.item.0 cannot valid.1));
    }

pub value_shown-entry-requires-clause-stays : goal.value_shown-entry-requires-clause-stays
value_shown-entry-requires-clause-stays c =
    let found = c.in-Some.ensures.found in
    let can = c.in-Some-slot_since.ensures.0 in
    let slot = c.in-Some-slot_since.ensures.1 in
    rw slot (stays-here (under c.args.name.0 c.interpreter.invariant c.is_whole.ensures found.0) c.args.guard.0 c.args.item.0 _ found.1 found.2
    (points c.interpreter.inside.environment c.args.name.0 _ found.0 c.args.item.0 can))

pub at-next-requires-clause-asked : goal.at-next-requires-clause-asked
at-next-requires-clause-asked c =
    let h = c.interpreter.inside.environment in
    let found = c.in-Some.ensures.found in
    let slot = c.in-Some-slot_since.ensures.1 in
    let shown = rw slot at c.value_shown-entry.ensures.shown in
    let can = points h c.args.name.0 _ found.0 c.args.item.0
    c.in-Some-slot_since.ensures.0 in
    let its = behind h c.interpreter.invariant c.is_whole.ensures c.args.name _ found.0 c.args.item c.value_shown-entry.result.now shown can in
    rw c.value_shown-entry.ensures.world (
      c.value_shown-entry.ensures.home,
      reader-is h c.interpreter.invariant c.args.guard.0 _ _ found.1 found.2,
      (its.0, its.1, its.2.list),
    )

pub item_seen-item-requires : goal.item_seen-item-requires
item_seen-item-requires c =
    let h = c.interpreter.inside.environment in
    let found = c.in-Some.ensures.found in
    let value = c.value_shown-entry.result.now in
    let slot = c.in-Some-slot_since.ensures.1 in
    let shown = rw slot at c.value_shown-entry.ensures.shown in
    let can = points h c.args.name.0 _ found.0 c.args.item.0
    c.in-Some-slot_since.ensures.0 in
    let its = behind h c.interpreter.invariant c.is_whole.ensures c.args.name _ found.0 c.args.item value shown can in
    let did = rw c.value_shown-entry.ensures.world at c.at-next.ensures.done in
    record {
      named = next-named h c.interpreter.invariant c.is_whole.ensures c.args.name _ found.0 c.args.item value shown can
          c.at-next.result (did its.0 its.1 its.2.list).0;
    }

told : (c : goal.After-drop-waited) → Does (state_of c.interpreter.inside.environment) (At c.args.name (call.Next c.args.item c.args.guard))
    (reply.Pointer c.item_seen-item.result no_tag)
    (record (with_dates c.interpreter.inside.environment c.date_new.new.dates) { world = c.at-next.new.world })
told c =
    let h = c.interpreter.inside.environment in
    let found = c.in-Some.ensures.found in
    let can = points h c.args.name.0 _ found.0 c.args.item.0
    c.in-Some-slot_since.ensures.0 in
    let slot = c.in-Some-slot_since.ensures.1 in
    let shown = rw slot at c.value_shown-entry.ensures.shown in
    let did = rw c.value_shown-entry.ensures.world at c.at-next.ensures.done in
    let told_so : AreTold h c.in_ok-waited.waited.items = c.in_ok-waited.ensures.each in
    acts-next h c.interpreter.invariant c.is_whole.ensures c.args.name _ found.0 c.args.item c.value_shown-entry.result.now shown can c.args.guard
    c.in_ok-waited.waited.items c.at-next.new.world c.date_new.new.dates c.at-next.result c.item_seen-item.result
    c.in-Some.ensures.valid told_so did c.item_seen-item.ensures
    (rw c.as_slice.ensures.value at c.date_new.ensures.dated, c.date_new.ensures.long)

pub invariant_of-interpreter : goal.invariant_of-interpreter
invariant_of-interpreter c = (told c).0

pub returns : goal.returns
returns c = record { acts = rw (← c.interpreter.view_is) (told c).1 }

use Rattle.sdd_script.proofs.Words.{length, map, ap, ◌∙◌, option_map, At, owner_holding, state_of, Does, does, goes, popping, with_dates}
use Rattle.sdd_script_text.specs.declared.answer.Reply.TheVariants as reply
use Rattle.sdd_script.proofs.ContainerActs.{entries-of, list-home, no-list}
use Rattle.sdd_script.proofs.EntryActs.{acts-drained, acts-pop_kept, acts-pop_refused, acts-popped, kept-home, kept-number, pop-invalid, popped-counts, popped-home_slots}
use Rattle.sdd_script.proofs.StackActs.{AreTold}
use Rattle.sdd_script.proofs.acts.entries.pop.Goals as goal

pub returns-in_default : goal.returns-in_default
returns-in_default c = record {
  acts = rw (← c.interpreter.view_is) (pop-invalid _ _ _ _ _ (λ valid. c.in_default.ensures.valid valid.0));
}

pub returns-in_default-list_named : goal.returns-in_default-list_named
returns-in_default-list_named c = record {
  acts = rw (← c.interpreter.view_is) (pop-invalid _ _ _ _ _
      (λ valid. no-list c.interpreter.inside.environment c.args.list c.in_default-list_named.ensures valid.1));
}

pub pop_at-requires-clause-list : goal.pop_at-requires-clause-list
pop_at-requires-clause-list c = list-home c.interpreter.inside.environment c.interpreter.invariant c.args.list _ c.in-Some-list_named.ensures

refused : (c : goal.After-drop-waited-in-Err-Refused) → Does (state_of c.interpreter.inside.environment)
    (At c.args.name (popping c.args.list c.args.first c.args.guard)) (reply.Refused c.in-Err-Refused.refused)
    (record c.interpreter.inside.environment { world = c.pop_at.new.world; owners = c.make_room.new.self })
refused c =
    let h = c.interpreter.inside.environment in
    let its = entries-of h c.interpreter.invariant c.args.list _ c.in-Some-list_named.ensures in
    let did = rw c.in-Err-Refused.field-0-is at c.in-Err-Refused.ensures.popped its.entries its.second its.has in
    let both = acts-pop_refused h c.interpreter.invariant c.is_whole.ensures c.args.name _ c.in-Some.ensures.found.0 c.args.guard c.in-Some.ensures.valid
    c.args.list _ c.in-Some-list_named.ensures c.args.first c.pop_at.new.world c.in-Err-Refused.refused did in
    let world = both.1 in
    let owners = ap (map (option_map owner_holding)) c.make_room.ensures.kept in
    does (state_of h) _ _ (goes (cc (world, owners)) c.interpreter.invariant.sound c.interpreter.invariant.guards) both.0

pub invariant_of-interpreter-in-Err-Refused : goal.invariant_of-interpreter-in-Err-Refused
invariant_of-interpreter-in-Err-Refused c = (refused c).0

pub returns-in-Err-Refused : goal.returns-in-Err-Refused
returns-in-Err-Refused c = record { acts = rw (← c.interpreter.view_is) (refused c).1 }

pub number_owned-number-requires : goal.number_owned-number-requires
number_owned-number-requires c =
    let h = c.interpreter.inside.environment in
    let its = entries-of h c.interpreter.invariant c.args.list _ c.in-Some-list_named.ensures in
    let did = rw c.in-Err-Kept.field-0-is at c.in-Err-Kept.ensures.popped its.entries its.second its.has in record {
      home = kept-home h c.interpreter.invariant c.is_whole.ensures c.args.name _ c.in-Some.ensures.found.0 c.args.guard c.in-Some.ensures.valid
          c.args.list _ c.in-Some-list_named.ensures c.args.first c.pop_at.new.world c.in-Err-Kept.owner did;
      number = kept-number h c.interpreter.invariant c.is_whole.ensures c.args.name _ c.in-Some.ensures.found.0 c.args.guard c.in-Some.ensures.valid
          c.args.list _ c.in-Some-list_named.ensures c.args.first c.pop_at.new.world c.in-Err-Kept.owner did;
    }

kept : (c : goal.After-drop-waited) → Does (state_of c.interpreter.inside.environment) (At c.args.name (popping c.args.list c.args.first c.args.guard))
    (reply.KeptEntry (record { 0 = c.give-name.result }) c.number_owned-number.result)
    (record c.interpreter.inside.environment { world = c.pop_at.new.world; owners = c.give-name.new.self })
kept c =
    let h = c.interpreter.inside.environment in
    let its = entries-of h c.interpreter.invariant c.args.list _ c.in-Some-list_named.ensures in
    let did = rw c.in-Err-Kept.field-0-is at c.in-Err-Kept.ensures.popped its.entries its.second its.has in
    acts-pop_kept h c.interpreter.invariant c.is_whole.ensures c.args.name _ c.in-Some.ensures.found.0 c.args.guard c.in-Some.ensures.valid
    c.args.list _ c.in-Some-list_named.ensures c.args.first c.pop_at.new.world c.in-Err-Kept.owner did c.number_owned-number.result
    c.give-name.new.self.entries (record { 0 = c.give-name.result }) c.number_owned-number.ensures
    (rw c.make_room.ensures.kept at c.give-name.ensures.given) (c.give-name.ensures.name ∙ ap length c.make_room.ensures.kept)

pub invariant_of-interpreter-in-Err-Kept : goal.invariant_of-interpreter-in-Err-Kept
invariant_of-interpreter-in-Err-Kept c = (kept c).0

pub returns-in-Err-Kept : goal.returns-in-Err-Kept
returns-in-Err-Kept c = record { acts = rw (← c.interpreter.view_is) (kept c).1 }

drained : (c : goal.After-drop-waited-in_default-popped) → Does (state_of c.interpreter.inside.environment)
    (At c.args.name (popping c.args.list c.args.first c.args.guard)) reply.Nothing
    (record (with_dates c.interpreter.inside.environment c.date_new.new.dates) { world = c.pop_at.new.world; owners = c.make_room.new.self })
drained c =
    let h = c.interpreter.inside.environment in
    let its = entries-of h c.interpreter.invariant c.args.list _ c.in-Some-list_named.ensures in
    let told_so : AreTold c.interpreter.inside.environment c.in_ok-waited.waited.items = c.in_ok-waited.ensures.each in
    let did = rw c.in_default-popped.is at c.in-Ok.ensures.popped its.entries its.second its.has in
    acts-drained h c.interpreter.invariant c.is_whole.ensures c.args.name _ c.in-Some.ensures.found.0 c.args.guard c.in-Some.ensures.valid
    c.args.list _ c.in-Some-list_named.ensures c.args.first c.pop_at.new.world did c.in_ok-waited.waited.items told_so c.make_room.new.self.entries
    c.date_new.new.dates c.make_room.ensures.kept (rw c.as_slice.ensures.value at c.date_new.ensures.dated, c.date_new.ensures.long)

pub invariant_of-interpreter-in_default-popped : goal.invariant_of-interpreter-in_default-popped
invariant_of-interpreter-in_default-popped c = (drained c).0

pub returns-in_default-popped : goal.returns-in_default-popped
returns-in_default-popped c = record { acts = rw (← c.interpreter.view_is) (drained c).1 }

pub number_owned-number-requires-2 : goal.number_owned-number-requires-2
number_owned-number-requires-2 c =
    let h = c.interpreter.inside.environment in
    let its = entries-of h c.interpreter.invariant c.args.list _ c.in-Some-list_named.ensures in
    let did = rw c.in-Some-popped.is at c.in-Ok.ensures.popped its.entries its.second its.has in record {
      home = popped-home_slots h c.interpreter.invariant c.is_whole.ensures c.args.name _ c.in-Some.ensures.found.0 c.args.guard c.in-Some.ensures.valid
          c.args.list _ c.in-Some-list_named.ensures c.args.first c.pop_at.new.world c.in-Some-popped.owner did;
      number = popped-counts h c.interpreter.invariant c.is_whole.ensures c.args.name _ c.in-Some.ensures.found.0 c.args.guard c.in-Some.ensures.valid
          c.args.list _ c.in-Some-list_named.ensures c.args.first c.pop_at.new.world c.in-Some-popped.owner did;
    }

popped : (c : goal.After-drop-waited-2) → Does (state_of c.interpreter.inside.environment) (At c.args.name (popping c.args.list c.args.first c.args.guard))
    (reply.Popped (record { 0 = c.give-name-2.result }) c.number_owned-number-2.result)
    (record (with_dates c.interpreter.inside.environment c.date_new.new.dates) { world = c.pop_at.new.world; owners = c.give-name-2.new.self })
popped c =
    let h = c.interpreter.inside.environment in
    let its = entries-of h c.interpreter.invariant c.args.list _ c.in-Some-list_named.ensures in
    let told_so : AreTold c.interpreter.inside.environment c.in_ok-waited.waited.items = c.in_ok-waited.ensures.each in
    let did = rw c.in-Some-popped.is at c.in-Ok.ensures.popped its.entries its.second its.has in
    acts-popped h c.interpreter.invariant c.is_whole.ensures c.args.name _ c.in-Some.ensures.found.0 c.args.guard c.in-Some.ensures.valid
    c.args.list _ c.in-Some-list_named.ensures c.args.first c.pop_at.new.world c.in-Some-popped.owner did c.in_ok-waited.waited.items told_so
    c.number_owned-number-2.result c.give-name-2.new.self.entries c.date_new.new.dates (record { 0 = c.give-name-2.result })
    c.number_owned-number-2.ensures (rw c.make_room.ensures.kept at c.give-name-2.ensures.given)
    (rw c.as_slice.ensures.value at c.date_new.ensures.dated, c.date_new.ensures.long) (c.give-name-2.ensures.name ∙ ap length c.make_room.ensures.kept)

pub invariant_of-interpreter-2 : goal.invariant_of-interpreter-2
invariant_of-interpreter-2 c = (popped c).0

pub returns : goal.returns
returns c = record { acts = rw (← c.interpreter.view_is) (popped c).1 }

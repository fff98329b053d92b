use Rattle.sdd_script.proofs.Words.{◌≡◌, ap, arith, At, Does, invalid, length, state_of, sym, ◌∙◌}
use Rattle.sdd_interpreter.specs.declared.log.Log.{Log}
use Rattle.sdd_script_text.specs.Actions as call
use Rattle.sdd_script_text.specs.declared.answer.Reply.TheVariants as reply
use Rattle.sdd_script.specs.ListCopies.{named_so, next_name}
use Rattle.sdd_script.proofs.ContainerActs.{no-list, reader-is}
use Rattle.sdd_script.proofs.CopyActs.{acts-copied, acts-refused, copy-home, few-slots, inside-slots, its-home, its-numbers, made, room-kept, undone}
use Rattle.sdd_script.proofs.acts.copies.copy_list.Goals as goal

pub returns-in_default-list_named : goal.returns-in_default-list_named
returns-in_default-list_named c =
    let h = c.interpreter.inside.environment in
    record { acts = rw (← c.interpreter.view_is) (invalid _ _ _ (λ valid. no-list h c.args.list c.in_default-list_named.ensures valid.1)) }

pub copy_of-requires-clause-home : goal.copy_of-requires-clause-home
copy_of-requires-clause-home c =
    let h = c.interpreter.inside.environment in
    let line = rw (← c.interpreter.view_is) at c.requires.line in
    its-home h c.interpreter.invariant c.is_whole.ensures c.args.name _ c.in-Some.ensures.found.0 line c.make_room.new.lists
    c.make_room.ensures.kept c.args.list _ c.in-Some-list_named-2.ensures

pub copy_of-requires-clause-numbers : goal.copy_of-requires-clause-numbers
copy_of-requires-clause-numbers c =
    let h = c.interpreter.inside.environment in
    let line = rw (← c.interpreter.view_is) at c.requires.line in
    its-numbers h c.interpreter.invariant c.is_whole.ensures c.args.name _ c.in-Some.ensures.found.0 line c.make_room.new.lists
    c.make_room.ensures.kept c.args.list _ c.in-Some-list_named-2.ensures

refused : (c : goal.After-drop-room) → Does (state_of c.interpreter.inside.environment) (At c.args.name (call.CloneList c.args.list c.args.guard))
    (reply.Refused c.in-Err.refused)
    (record c.interpreter.inside.environment { world = c.copy_of.new.world; lists = c.make_room.new.lists; log = c.note_refusal.new.log })
refused c =
    let h = c.interpreter.inside.environment in
    let line = rw (← c.interpreter.view_is) at c.requires.line in
    let ready = c.in_ok-room.ensures.ready in
    let nothing = undone h c.interpreter.invariant c.is_whole.ensures c.args.name _ c.in-Some.ensures.found.0 line c.copy_of.new.world c.make_room.new.lists
    c.make_ready.new.log c.note_refusal.new.log c.in_ok-room.field-0.free.items c.in_ok-room.field-0.waited.items c.make_room.ensures.kept
    c.make_ready.ensures.same c.make_ready.ensures.slots ready.free ready.waited c.note_refusal.ensures.same
    (rw c.as_slice-in-Err.ensures.value at c.note_refusal.ensures.names, c.note_refusal.ensures.long.0)
    (rw c.as_slice.ensures.value at c.note_refusal.ensures.dates, c.note_refusal.ensures.long.1) in
    acts-refused h c.interpreter.invariant c.is_whole.ensures c.args.name _ c.in-Some.ensures.found.0 line c.make_room.new.lists
    c.make_room.ensures.kept c.args.list _ c.in-Some-list_named-2.ensures c.args.guard
    c.in-Some.ensures.valid c.in-Err.refused c.copy_of.new.world c.note_refusal.new.log nothing c.in-Err.ensures.copied

pub invariant_of-interpreter-in-Err : goal.invariant_of-interpreter-in-Err
invariant_of-interpreter-in-Err c = (refused c).0

pub returns-in-Err : goal.returns-in-Err
returns-in-Err c = record { acts = rw (← c.interpreter.view_is) (refused c).1 }

pub at-slots-requires-clause-place : goal.at-slots-requires-clause-place
at-slots-requires-clause-place c =
    let h = c.interpreter.inside.environment in
    let line = rw (← c.interpreter.view_is) at c.requires.line in
    (made h c.interpreter.invariant c.is_whole.ensures c.args.name _ c.in-Some.ensures.found.0 line c.make_room.new.lists
    c.make_room.ensures.kept c.args.list _ c.in-Some-list_named-2.ensures c.in-Ok.copy c.copy_of.new.world
    c.in-Ok.ensures.copied).placed

pub at-slots-requires-clause-asked : goal.at-slots-requires-clause-asked
at-slots-requires-clause-asked c =
    let h = c.interpreter.inside.environment in
    let line = rw (← c.interpreter.view_is) at c.requires.line in
    let f = made h c.interpreter.invariant c.is_whole.ensures c.args.name _ c.in-Some.ensures.found.0 line c.make_room.new.lists
    c.make_room.ensures.kept c.args.list _ c.in-Some-list_named-2.ensures c.in-Ok.copy c.copy_of.new.world
    c.in-Ok.ensures.copied in
    let found = c.in-Some.ensures.found in
    let ready = c.in_ok-room.ensures.ready in
    let names = ap (λ (x : Log). length x.names.items) c.make_ready.ensures.same in (
      rw f.home (copy-home _ c.in-Ok.copy _ c.as_list-list.ensures c.in-Ok.ensures.home),
      reader-is h c.interpreter.invariant c.args.guard.0 _ _ found.1 found.2 ∙ sym f.reader,
      ready.empty,
      omega (arith, ready.room, names, c.len-most.ensures),
    )

pub name_all-requires-clause-room : goal.name_all-requires-clause-room
name_all-requires-clause-room c =
    let h = c.interpreter.inside.environment in
    let line = rw (← c.interpreter.view_is) at c.requires.line in
    let names : c.make_ready.new.log.names.items ≡ h.log.names.items = ap (λ (x : Log). x.names.items) c.make_ready.ensures.same in
    let most : c.len-most.result ≡ length h.log.names.items = omega (arith, ap length names, c.len-most.ensures) in
    let few = few-slots h c.interpreter.invariant c.is_whole.ensures c.args.name _ c.in-Some.ensures.found.0 line c.make_room.new.lists
    c.make_room.ensures.kept c.args.list _ c.in-Some-list_named-2.ensures c.in-Ok.copy c.copy_of.new.world
    c.in-Ok.ensures.copied c.as_list-list.result c.as_list-list.ensures c.len-most.result most _ c.at-slots.ensures.done.1 in
    omega (arith, few, ap length c.as_slice-2.ensures.value, c.in_ok-room.ensures.names)

pub name_all-requires-clause-inside : goal.name_all-requires-clause-inside
name_all-requires-clause-inside c =
    let h = c.interpreter.inside.environment in
    let line = rw (← c.interpreter.view_is) at c.requires.line in
    let names : c.make_ready.new.log.names.items ≡ h.log.names.items = ap (λ (x : Log). x.names.items) c.make_ready.ensures.same in
    let most : c.len-most.result ≡ length h.log.names.items = omega (arith, ap length names, c.len-most.ensures) in
    let inside = inside-slots h c.interpreter.invariant c.is_whole.ensures c.args.name _ c.in-Some.ensures.found.0 line c.make_room.new.lists
    c.make_room.ensures.kept c.args.list _ c.in-Some-list_named-2.ensures c.in-Ok.copy c.copy_of.new.world
    c.in-Ok.ensures.copied c.as_list-list.result c.as_list-list.ensures c.len-most.result most _ c.at-slots.ensures.done.1 in
    rw (names, c.as_slice-2.ensures.value) inside

pub give_name-requires : goal.give_name-requires
give_name-requires c =
    let h = c.interpreter.inside.environment in
    let line = rw (← c.interpreter.view_is) at c.requires.line in
    record {
      room = room-kept h c.interpreter.invariant c.is_whole.ensures c.args.name _ c.in-Some.ensures.found.0 line c.make_room.new.lists
          c.make_room.ensures.kept c.args.list _ c.in-Some-list_named-2.ensures c.in-Ok.copy c.copy_of.new.world
          c.in-Ok.ensures.copied c.in_ok-make_room.ensures.room;
    }

copied : (c : goal.After-drop-waited-2) → Does (state_of c.interpreter.inside.environment) (At c.args.name (call.CloneList c.args.list c.args.guard))
    (named_so (next_name c.make_room.new.lists c.in-Ok.copy))
    (record c.interpreter.inside.environment {
      world = c.at-slots.new.world;
      lists = c.give_name.new.lists;
      log = record c.make_ready.new.log { slots = c.name_all.new.slots; names = c.name_all.new.names };
    })
copied c =
    let h = c.interpreter.inside.environment in
    let line = rw (← c.interpreter.view_is) at c.requires.line in
    let names : c.make_ready.new.log.names.items ≡ h.log.names.items = ap (λ (x : Log). x.names.items) c.make_ready.ensures.same in
    let most : c.len-most.result ≡ length h.log.names.items = omega (arith, ap length names, c.len-most.ensures) in
    acts-copied h c.interpreter.invariant c.is_whole.ensures c.args.name _ c.in-Some.ensures.found.0 line c.make_room.new.lists
    c.make_room.ensures.kept c.args.list _ c.in-Some-list_named-2.ensures c.in-Ok.copy c.copy_of.new.world
    c.in-Ok.ensures.copied c.as_list-list.result c.as_list-list.ensures c.len-most.result most _ c.at-slots.ensures.done.1
    c.args.guard c.in-Some.ensures.valid c.at-slots.new.world c.at-slots.ensures.done.0 c.in-Ok.ensures.home c.give_name.new.lists
    (record c.make_ready.new.log { slots = c.name_all.new.slots; names = c.name_all.new.names }) c.give_name.ensures.given
    (ap (λ (x : Log). record x { slots = c.name_all.new.slots; names = c.name_all.new.names }) c.make_ready.ensures.same)
    (rw (c.make_ready.ensures.slots, c.as_slice-2.ensures.value) at c.name_all.ensures.slots)
    (rw (c.make_ready.ensures.slots, names, c.as_slice-2.ensures.value) at c.name_all.ensures.names)

pub invariant_of-interpreter-2 : goal.invariant_of-interpreter-2
invariant_of-interpreter-2 c = (copied c).0

pub returns : goal.returns
returns c = record { acts = rw (← c.interpreter.view_is, c.give_name.ensures.reply) (copied c).1 }

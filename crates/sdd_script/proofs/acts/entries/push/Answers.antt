use Rattle.sdd_script.proofs.Words.{◌≡◌, ℕ, Some, length, map, slice_set, ap, ◌∙◌, arith, rules, option_map, At, owner_holding, state_of, Environment, Does, does, goes, pushing}
use Rattle.std.specs.Vec.{with_item}
use Rattle.sdd_space.specs.Shared.{slot_of}
use Rattle.sdd_script_text.specs.declared.answer.Reply.TheVariants as reply
use Rattle.sdd_script.proofs.ContainerActs.{entries-of, list-home, no-list}
use Rattle.sdd_script.proofs.EntryActs.{acts-push_kept, acts-push_refused, acts-pushed, push-invalid, slot-free}
use Rattle.sdd_script.proofs.StackActs.{AreTold}
use Rattle.sdd_script.proofs.acts.entries.push.Goals as goal

pub returns-in_default : goal.returns-in_default
returns-in_default c = record {
  acts = rw (← c.interpreter.view_is) (push-invalid _ _ _ _ _ _ (λ valid. c.in_default.ensures.valid valid.0));
}

pub returns-in_default-list_named : goal.returns-in_default-list_named
returns-in_default-list_named c = record {
  acts = rw (← c.interpreter.view_is) (push-invalid _ _ _ _ _ _
      (λ valid. no-list c.interpreter.inside.environment c.args.list c.in_default-list_named.ensures valid.1));
}

pub push_at-requires-clause-list : goal.push_at-requires-clause-list
push_at-requires-clause-list c = list-home c.interpreter.inside.environment c.interpreter.invariant c.args.list _ c.in-Some-list_named.ensures

refused : (c : goal.After-drop-waited) → Does (state_of c.interpreter.inside.environment)
    (At c.args.name (pushing c.args.list c.args.number c.args.newest c.args.guard)) (reply.Refused c.in-Err-Some.refused)
    (record c.interpreter.inside.environment {
      world = c.push_at.new.world;
      owners = c.make_room.new.self;
      log = record c.interpreter.inside.environment.log
          { slots = c.reserve.new.self };
    })
refused c =
    let h = c.interpreter.inside.environment in
    let its = entries-of h c.interpreter.invariant c.args.list _ c.in-Some-list_named.ensures in
    let did = rw c.in-Err-Some.field-0-is at c.in-Err-Some.ensures.pushed its.entries its.second its.has in
    let both = acts-push_refused h c.interpreter.invariant c.is_whole.ensures c.args.name _ c.in-Some.ensures.found.0 c.args.guard c.in-Some.ensures.valid
    c.args.list _ c.in-Some-list_named.ensures c.args.newest c.args.number c.push_at.new.world c.in-Err-Some.refused did in
    let world = both.1 in
    let owners = ap (map (option_map owner_holding)) c.make_room.ensures.kept in
    let slots = c.reserve.ensures.items in
    does (state_of h) _ _ (goes (cc (world, owners, slots)) c.interpreter.invariant.sound c.interpreter.invariant.guards) both.0

pub invariant_of-interpreter-in-Err-Some : goal.invariant_of-interpreter-in-Err-Some
invariant_of-interpreter-in-Err-Some c = (refused c).0

pub returns-in-Err-Some : goal.returns-in-Err-Some
returns-in-Err-Some c = record { acts = rw (← c.interpreter.view_is) (refused c).1 }

kept : (c : goal.After-drop-waited-in-Err-None) → Does (state_of c.interpreter.inside.environment)
    (At c.args.name (pushing c.args.list c.args.number c.args.newest c.args.guard)) (reply.Kept c.args.number)
    (record c.interpreter.inside.environment {
      world = c.push_at.new.world;
      owners = c.make_room.new.self;
      log = record c.interpreter.inside.environment.log
          { slots = c.reserve.new.self };
    })
kept c =
    let h = c.interpreter.inside.environment in
    let its = entries-of h c.interpreter.invariant c.args.list _ c.in-Some-list_named.ensures in
    let did = rw c.in-Err-None.field-0-is at c.in-Err-None.ensures.pushed its.entries its.second its.has in
    let both = acts-push_kept h c.interpreter.invariant c.is_whole.ensures c.args.name _ c.in-Some.ensures.found.0 c.args.guard c.in-Some.ensures.valid
    c.args.list _ c.in-Some-list_named.ensures c.args.newest c.args.number c.push_at.new.world did in
    let world = both.1 in
    let owners = ap (map (option_map owner_holding)) c.make_room.ensures.kept in
    let slots = c.reserve.ensures.items in
    does (state_of h) _ _ (goes (cc (world, owners, slots)) c.interpreter.invariant.sound c.interpreter.invariant.guards) both.0

pub invariant_of-interpreter-in-Err-None : goal.invariant_of-interpreter-in-Err-None
invariant_of-interpreter-in-Err-None c = (kept c).0

pub returns-in-Err-None : goal.returns-in-Err-None
returns-in-Err-None c = record { acts = rw (← c.interpreter.view_is) (kept c).1 }

pub index_mut-requires : goal.index_mut-requires
index_mut-requires c =
    let h = c.interpreter.inside.environment in
    let its = entries-of h c.interpreter.invariant c.args.list _ c.in-Some-list_named.ensures in
    let free = slot-free h c.interpreter.invariant c.is_whole.ensures c.args.name _ c.in-Some.ensures.found.0 c.args.guard c.in-Some.ensures.valid
    c.args.list _ c.in-Some-list_named.ensures c.args.newest c.args.number c.push_at.new.world c.in-Ok.owner
    (c.in-Ok.ensures.pushed its.entries its.second its.has) in
    omega (arith, free, c.slot_of_share-slot.ensures, c.interpreter.inside.environment.log.names.ok.0)

abbrev left : goal.After-drop-waited-2 → Environment
left c = record c.interpreter.inside.environment {
  world = c.push_at.new.world;
  owners = c.give-name.new.self;
  log = record c.interpreter.inside.environment.log {
    slots = c.push_reserved.new.self;
    names = with_item c.interpreter.inside.environment.log.names c.slot_of_share-slot.result
        (Some c.len-item.result);
    dates = c.date_new.new.dates;
  };
}

pushed : (c : goal.After-drop-waited-2) → Does (state_of c.interpreter.inside.environment)
    (At c.args.name (pushing c.args.list c.args.number c.args.newest c.args.guard))
    (reply.Item (record { 0 = c.give-name.result }) (record { 0 = c.len-item.result })) (left c)
pushed c =
    let h = c.interpreter.inside.environment in
    let its = entries-of h c.interpreter.invariant c.args.list _ c.in-Some-list_named.ensures in
    let next : c.len-item.result ≡ length c.interpreter.inside.environment.log.slots.items = search rules in
    let slot : c.slot_of_share-slot.result ≡ slot_of c.in-Ok.owner = c.slot_of_share-slot.ensures in
    let told_so : AreTold c.interpreter.inside.environment c.in_ok-waited.waited.items = c.in_ok-waited.ensures.each in
    acts-pushed h c.interpreter.invariant c.is_whole.ensures c.args.name _ c.in-Some.ensures.found.0 c.args.guard c.in-Some.ensures.valid
    c.args.list _ c.in-Some-list_named.ensures c.args.newest c.args.number c.push_at.new.world c.in-Ok.owner
    (c.in-Ok.ensures.pushed its.entries its.second its.has) c.in_ok-waited.waited.items told_so c.give-name.new.self.entries c.push_reserved.new.self
    (with_item c.interpreter.inside.environment.log.names c.slot_of_share-slot.result (Some c.len-item.result)) c.date_new.new.dates
    (record { 0 = c.give-name.result })
    (record { 0 = c.len-item.result }) (rw c.make_room.ensures.kept at c.give-name.ensures.given)
    (rw (c.reserve.ensures.items, slot) at c.push_reserved.ensures.items)
    (ap (λ (n : ℕ). slice_set c.interpreter.inside.environment.log.names.items c.slot_of_share-slot.result (Some n)) next
    ∙ ap (λ k. slice_set c.interpreter.inside.environment.log.names.items k (Some (length c.interpreter.inside.environment.log.slots.items))) slot)
    (rw c.as_slice.ensures.value at c.date_new.ensures.dated, c.date_new.ensures.long)
    (c.give-name.ensures.name ∙ ap length c.make_room.ensures.kept) next

pub invariant_of-interpreter-2 : goal.invariant_of-interpreter-2
invariant_of-interpreter-2 c = (pushed c).0

pub returns : goal.returns
returns c = record { acts = rw (← c.interpreter.view_is) (pushed c).1 }

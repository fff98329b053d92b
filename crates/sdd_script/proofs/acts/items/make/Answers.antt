use Rattle.sdd_script.proofs.Words.{◌≡◌, ℕ, Some, length, slice_set, sym, ap, ◌∙◌, rules, false≢true, still, slot_of, At, Environment, Acts, state_of, IsTied, making, here}
use Rattle.std.specs.Vec.{with_item}
use Rattle.sdd_script_text.specs.declared.answer.Reply.TheVariants as reply
use Rattle.sdd_script.proofs.ItemActs.{acts-made, refused-meets}
use Rattle.sdd_script.proofs.MadeItems.{becomes-long, body-home, first-slot, there-to-put}
use Rattle.sdd_script.proofs.acts.items.make.Goals as goal

pub returns-in-Some-refuses_item : goal.returns-in-Some-refuses_item
returns-in-Some-refuses_item c =
    let h = c.interpreter.inside.environment in
    let put = there-to-put h c.args.value (λ missing. false≢true (c.if-is_missing.ensures.1 missing)) in
    record {
      acts = rw (← c.interpreter.view_is) (still (state_of h) _ _ (refused-meets c.args.name
          (here c.args.name.0 c.interpreter.invariant c.is_whole.ensures c.in-Some.ensures) c.args.ownership c.args.value _ put c.in-Some-refuses_item.ensures));
    }

pub at-owner-requires-clause-asked : goal.at-owner-requires-clause-asked
at-owner-requires-clause-asked c =
    let home = body-home c.interpreter.inside.environment c.interpreter.invariant c.is_whole.ensures c.args.value _ _
    (rw c.make_room.ensures.kept at c.in-Some-body_from.ensures.becomes) in (search rules, search rules, home)

pub give-name-requires : goal.give-name-requires
give-name-requires c =
    let long = becomes-long _ _ c.args.value _ c.in-Some-body_from.ensures.becomes in
    rw (long, c.in-Some-body_from.ensures.room) c.in_ok-make_room.ensures.room

abbrev left : goal.After-give-name → Environment
left c = record c.interpreter.inside.environment {
  world = c.at-owner.new.world;
  owners = c.give-name.new.self;
  log = record c.interpreter.inside.environment.log {
    slots = c.push_reserved.new.self;
    names = with_item c.interpreter.inside.environment.log.names c.slot-slot.result (Some c.len-item.result);
  };
}

made : (c : goal.After-give-name) → IsTied (left c) × Acts (state_of c.interpreter.inside.environment) (At c.args.name (making c.args.ownership c.args.value))
    (reply.Item (record { 0 = c.give-name.result }) (record { 0 = c.len-item.result })) (state_of (left c))
made c =
    let m = c.at-owner.ensures.done in
    let next : c.len-item.result ≡ length c.interpreter.inside.environment.log.slots.items = search rules in
    let slot : c.slot-slot.result ≡ m.0 = sym (first-slot c.args.ownership m.0 _ _ (ap (λ x. slot_of (Some x)) (sym m.3) ∙ c.slot-slot.ensures)) in
    let long = becomes-long _ _ c.args.value _ c.in-Some-body_from.ensures.becomes in
    acts-made c.args.name (here c.args.name.0 c.interpreter.invariant c.is_whole.ensures c.in-Some.ensures) c.args.value
    m.0 m.1 m.2 c.args.ownership _ c.body_from.new.owners.entries _ _ _ _ c.in-Some-body_from.body _ _
    (rw c.make_room.ensures.kept at c.in-Some-body_from.ensures.becomes)
    m.6 m.4 m.5 m.7 m.8 m.9 m.3 c.give-name.ensures.given (rw (c.reserve.ensures.items, slot) at c.push_reserved.ensures.items)
    (ap (λ (n : ℕ). slice_set c.interpreter.inside.environment.log.names.items c.slot-slot.result (Some n)) next
    ∙ ap (λ k. slice_set c.interpreter.inside.environment.log.names.items k (Some (length c.interpreter.inside.environment.log.slots.items))) slot)
    (c.give-name.ensures.name ∙ long ∙ ap length c.make_room.ensures.kept) next

pub invariant_of-interpreter-2 : goal.invariant_of-interpreter-2
invariant_of-interpreter-2 c = (made c).0

pub returns : goal.returns
returns c = record { acts = rw (← c.interpreter.view_is) (made c).1 }

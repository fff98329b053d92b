use Rattle.sdd_script.proofs.Words.{◌≢◌, inl, is_some, ap, At, IsTrue, IsLooseEntry, slot_at, state_of, Share, Does, stays-here, invalid, no-shared, points, points-not, name-given, under}
use Rattle.sdd_script_text.specs.Actions as call
use Rattle.sdd_script_text.specs.declared.answer.Reply.TheVariants as reply
use Rattle.sdd_space.specs.Shared.{slot_of}
use Rattle.sdd_script.proofs.ContainerActs.{reader-is}
use Rattle.sdd_script.proofs.LinkActs.{acts-appended, acts-deleted, its-out, loose-taken, may-come, may-not}
use Rattle.sdd_interpreter.proofs.EnvironmentAnswers.{owner-home}
use Rattle.sdd_script.proofs.acts.links.append.Goals as goal

pub returns-in_default : goal.returns-in_default
returns-in_default c = record {
  acts = rw (← c.interpreter.view_is) (invalid _ _ _ (λ valid. c.in_default.ensures.valid valid.0));
}

pub slot_since-requires-clause-inside : goal.slot_since-requires-clause-inside
slot_since-requires-clause-inside c s some =
    name-given _ c.interpreter.invariant.sound.stocked s some

pub returns-in_default-slot_since : goal.returns-in_default-slot_since
returns-in_default-slot_since c =
    let cannot = c.in_default-slot_since.ensures in
    record {
      acts = rw (← c.interpreter.view_is)
          (invalid _ _ _ (λ valid. points-not c.interpreter.inside.environment c.args.name.0 _ c.in-Some.ensures.found.0 c.args.item.0 cannot valid.1));
    }

pub returns-in_default-shared_of : goal.returns-in_default-shared_of
returns-in_default-shared_of c = record {
  acts = rw (← c.interpreter.view_is)
      (invalid _ _ _ (λ valid. no-shared c.interpreter.inside.environment c.args.owner.0 c.in_default-shared_of.ensures (ap is_some valid.2.owner)));
}

pub is_loose_beside-requires-clause-stays : goal.is_loose_beside-requires-clause-stays
is_loose_beside-requires-clause-stays c =
    rw c.slot_of_share.ensures
    (inl (its-out c.interpreter.inside.environment c.interpreter.invariant c.is_whole.ensures c.args.owner.0 c.in-Some-shared_of.owned.now c.in-Some-shared_of.ensures))

pub returns-then-not-is_loose_beside : goal.returns-then-not-is_loose_beside
returns-then-not-is_loose_beside c =
    let h = c.interpreter.inside.environment in
    let x = c.in-Some-shared_of.owned.now in
    let slot = c.in-Some-slot_since.ensures.1 in
    let loose = rw (c.slot_of_share.ensures, slot) at c.is_loose_beside.ensures.loose.1 in
    let cannot : IsLooseEntry h.world (slot_of x) × (slot_of x ≢ slot_at (state_of h) c.args.item.0) → ⊥ =
    λ both. (let yes : IsTrue c.is_loose_beside.result = loose both in let is = c.if-not-is_loose_beside.true in cc) in
    record {
      acts = rw (c.is_loose_beside.ensures.world, ← c.interpreter.view_is) (invalid _ _ _ (λ valid.
          may-not h c.interpreter.invariant c.is_whole.ensures c.args.owner.0 x c.in-Some-shared_of.ensures c.args.item.0 cannot valid.2));
    }

pub value_shown-entry-requires-clause-stays : goal.value_shown-entry-requires-clause-stays
value_shown-entry-requires-clause-stays c =
    let found = c.in-Some.ensures.found in
    let can = c.in-Some-slot_since.ensures.0 in
    let slot = c.in-Some-slot_since.ensures.1 in
    rw (c.is_loose_beside.ensures.world, slot) (stays-here (under c.args.name.0 c.interpreter.invariant c.is_whole.ensures found.0) c.args.guard.0
    c.args.item.0 _ found.1 found.2 (points c.interpreter.inside.environment c.args.name.0 _ found.0 c.args.item.0 can))

pub at-requires-clause-asked : goal.at-requires-clause-asked
at-requires-clause-asked c =
    let h = c.interpreter.inside.environment in
    let found = c.in-Some.ensures.found in
    let slot = c.in-Some-slot_since.ensures.1 in
    let can = points h c.args.name.0 _ found.0 c.args.item.0
    c.in-Some-slot_since.ensures.0 in
    let shown = rw (c.is_loose_beside.ensures.world, slot) at c.value_shown-entry.ensures.shown in
    let taken = c.in-Some-take_shared.ensures.0 in
    let loose = loose-taken h c.interpreter.invariant c.is_whole.ensures c.args.owner.0 c.in-Some-shared_of.owned.now c.in-Some-shared_of.ensures
    c.in-Some-take_shared.last (slot_at (state_of h) c.args.item.0) taken
    (rw (c.slot_of_share.ensures, slot) at (c.is_loose_beside.ensures.loose.0 c.if-not-is_loose_beside.false)) in
    rw (c.value_shown-entry.ensures.world, c.is_loose_beside.ensures.world) (
      rw c.is_loose_beside.ensures.world at c.value_shown-entry.ensures.home,
      owner-home h c.interpreter.invariant c.args.owner.0 (Share c.in-Some-take_shared.last) taken,
      reader-is h c.interpreter.invariant c.args.guard.0 _ _ found.1 found.2,
      may-come h c.interpreter.invariant c.is_whole.ensures c.args.name _ found.0 c.args.item c.value_shown-entry.result.now shown can c.args.owner
          c.in-Some-take_shared.last taken loose.0 loose.1,
    )

put : (c : goal.In-None) → Does (state_of c.interpreter.inside.environment)
    (At c.args.name (call.Append c.args.item c.args.owner c.args.mark c.args.guard)) reply.Done
    (record c.interpreter.inside.environment { world = c.at.new.world; owners = c.take_shared.new.owners })
put c =
    let h = c.interpreter.inside.environment in
    let found = c.in-Some.ensures.found in
    let slot = c.in-Some-slot_since.ensures.1 in
    let can = points h c.args.name.0 _ found.0 c.args.item.0
    c.in-Some-slot_since.ensures.0 in
    let shown = rw (c.is_loose_beside.ensures.world, slot) at c.value_shown-entry.ensures.shown in
    let taken = c.in-Some-take_shared.ensures.0 in
    let loose = loose-taken h c.interpreter.invariant c.is_whole.ensures c.args.owner.0 c.in-Some-shared_of.owned.now c.in-Some-shared_of.ensures
    c.in-Some-take_shared.last (slot_at (state_of h) c.args.item.0) taken
    (rw (c.slot_of_share.ensures, slot) at (c.is_loose_beside.ensures.loose.0 c.if-not-is_loose_beside.false)) in
    acts-appended h c.interpreter.invariant c.is_whole.ensures c.args.name _ found.0 c.args.item c.value_shown-entry.result.now shown can c.args.owner
    c.in-Some-take_shared.last taken loose.0 loose.1 c.args.mark c.args.guard c.in-Some.ensures.valid c.at.new.world
    c.take_shared.new.owners.entries (rw (c.value_shown-entry.ensures.world, c.is_loose_beside.ensures.world) at c.in-None.ensures.done)
    c.in-Some-take_shared.ensures.1

pub invariant_of-interpreter-in-None : goal.invariant_of-interpreter-in-None
invariant_of-interpreter-in-None c = (put c).0

pub returns-in-None : goal.returns-in-None
returns-in-None c = record { acts = rw (← c.interpreter.view_is) (put c).1 }

back : (c : goal.After-put_back) → Does (state_of c.interpreter.inside.environment)
    (At c.args.name (call.Append c.args.item c.args.owner c.args.mark c.args.guard)) reply.Deleted
    (record c.interpreter.inside.environment { world = c.at.new.world; owners = c.put_back.new.self })
back c =
    let h = c.interpreter.inside.environment in
    let found = c.in-Some.ensures.found in
    let slot = c.in-Some-slot_since.ensures.1 in
    let can = points h c.args.name.0 _ found.0 c.args.item.0
    c.in-Some-slot_since.ensures.0 in
    let shown = rw (c.is_loose_beside.ensures.world, slot) at c.value_shown-entry.ensures.shown in
    let taken = c.in-Some-take_shared.ensures.0 in
    let loose = loose-taken h c.interpreter.invariant c.is_whole.ensures c.args.owner.0 c.in-Some-shared_of.owned.now c.in-Some-shared_of.ensures
    c.in-Some-take_shared.last (slot_at (state_of h) c.args.item.0) taken
    (rw (c.slot_of_share.ensures, slot) at (c.is_loose_beside.ensures.loose.0 c.if-not-is_loose_beside.false)) in
    acts-deleted h c.interpreter.invariant c.is_whole.ensures c.args.name _ found.0 c.args.item c.value_shown-entry.result.now shown can c.args.owner
    c.in-Some-take_shared.last taken loose.0 loose.1 c.args.mark c.args.guard c.in-Some.ensures.valid c.at.new.world
    c.take_shared.new.owners.entries c.put_back.new.self.entries c.in-Some-at.last
    (rw (c.value_shown-entry.ensures.world, c.is_loose_beside.ensures.world) at c.in-Some-at.ensures.done)
    c.in-Some-take_shared.ensures.1 c.put_back.ensures.back

pub invariant_of-interpreter-in-Some-at : goal.invariant_of-interpreter-in-Some-at
invariant_of-interpreter-in-Some-at c = (back c).0

pub returns-in-Some-at : goal.returns-in-Some-at
returns-in-Some-at c = record { acts = rw (← c.interpreter.view_is) (back c).1 }

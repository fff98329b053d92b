use Rattle.sdd_script.proofs.Words.{◌≡◌, ℕ, Bool, Option, None, Some, IsTrue, ◌↔◌, if◌then◌else◌, ap, is_some, refl, slice_index_or, slice_set, map-set, Vec, IsSharedBy, owner_given, World, standing_at, shared_slot, index_of, OwnerName, PlaceName, At, Val, AnyOwner, Share, NamedParticipant, Environment, state_of, owner_holding, Does, Here, attends, here, leaves, place-is, sits, named as named-as, released-leaves, nobody, with_dates}
use Rattle.sdd_space.specs.Shared.{Shared}
use Rattle.std.specs.Vec.{with_item}
use Rattle.sdd_participants.specs.declared.standing.Standing.TheVariants as standing
use Rattle.sdd_space.specs.Shared as shared
use Rattle.sdd_script_text.specs.Actions as call
use Rattle.sdd_script_text.specs.declared.answer.Reply.TheVariants as reply
use Rattle.sdd_script.proofs.acts.owners.release.Goals.{then-was_last, else-was_last}
use Rattle.sdd_script.proofs.acts.owners.release.Goals as goal

pub returns-in_default : goal.returns-in_default
returns-in_default c = record {
  acts = rw (← c.interpreter.view_is) (nobody c.interpreter.inside.environment c.args.name _ c.in_default.ensures
      (λ valid. valid.0));
}

-- whether it was the last or not
released : {h : Environment} (name : PlaceName) {a : NamedParticipant} (at : Here h name.0 a) (o : OwnerName) (x : Shared Val) (k : ℕ) (b : Bool)
    (w : World Val) (owners : Vec (Option AnyOwner)) (dates : Vec ℕ) → slice_index_or h.owners.entries.items o.0 None ≡ Some (Share x) →
    owners.items ≡ slice_set h.owners.entries.items o.0 None → dates.items ≡ (if b then slice_set h.log.dates.items k h.log.moment else h.log.dates.items) →
    k ≡ shared.slot_of x → (count : ℕ) × IsSharedBy count (standing_at h.world (shared.slot_of x)) × (IsTrue b ↔ (count ≡ 1))
    × (w ≡ owner_given h.world (index_of a.place) (shared.slot_of x) (Some (standing.Shared count))) →
    Does (state_of h) (At name (call.Release o)) (reply.Truth b) (record (with_dates h dates) { world = w; owners = record { entries = owners } })
released {h} name at o x k b w owners dates mine taken dated slot (count, stands, last, world) =
    let its = ap shared_slot (named-as owner_holding h.owners.entries.items o.0 mine) in
    leaves at refl (simp (world, taken, dated, slot, map-set))
    (released-leaves (state_of h) at.tied.sound at.whole _ (shared.slot_of x) o.0 count b (sits at) its stands last)
    ((attends at, ap is_some its), rw (place-is at) (shared.slot_of x, count, its, stands, last, refl))

pub invariant_of-interpreter-then-was_last : goal.invariant_of-interpreter-then-was_last
invariant_of-interpreter-then-was_last c =
    let now = c.interpreter.inside.environment.log.moment in
    (released c.args.name (here c.args.name.0 c.interpreter.invariant c.is_whole.ensures c.in-Some.ensures) c.args.owner _ _ _ _ c.take_shared.new.owners.entries
    (with_item c.interpreter.inside.environment.log.dates c.slot_of_share-slot.result now) c.in-Some-take_shared.ensures.0 c.in-Some-take_shared.ensures.1
    (rw c.if-was_last.true refl) c.slot_of_share-slot.ensures c.at-was_last.ensures.done).0

pub invariant_of-interpreter-else-was_last : goal.invariant_of-interpreter-else-was_last
invariant_of-interpreter-else-was_last c =
    (released c.args.name (here c.args.name.0 c.interpreter.invariant c.is_whole.ensures c.in-Some.ensures) c.args.owner _ _ _ _ c.take_shared.new.owners.entries
    c.interpreter.inside.environment.log.dates c.in-Some-take_shared.ensures.0 c.in-Some-take_shared.ensures.1
    (rw c.if-was_last.false refl) c.slot_of_share-slot.ensures c.at-was_last.ensures.done).0

pub returns : goal.returns
returns c =
    let at = here c.args.name.0 c.interpreter.invariant c.is_whole.ensures c.in-Some.ensures in
    let took = c.in-Some-take_shared.ensures in
    record {
      acts = elim c.if-was_last.branch [
        | then-was_last w ↦ rw (← c.interpreter.view_is, w.interpreter-is) (released c.args.name at c.args.owner _ _ _ _ c.take_shared.new.owners.entries
            (with_item c.interpreter.inside.environment.log.dates c.slot_of_share-slot.result c.interpreter.inside.environment.log.moment) took.0 took.1
            (rw w.if-was_last.true refl)
            c.slot_of_share-slot.ensures c.at-was_last.ensures.done).1
        | else-was_last w ↦ rw (← c.interpreter.view_is, w.interpreter-is) (released c.args.name at c.args.owner _ _ _ _ c.take_shared.new.owners.entries
            c.interpreter.inside.environment.log.dates took.0 took.1 (rw w.if-was_last.false refl) c.slot_of_share-slot.ensures
            c.at-was_last.ensures.done).1
      ];
    }

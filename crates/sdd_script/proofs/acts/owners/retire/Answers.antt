use Rattle.sdd_script.proofs.Words.{ap, is_some, refl, map-set, sole_slot, At, state_of, owner_holding, Does, attends, here, leaves, place-is, sits, named as named-as, retired-leaves, nobody, with_dates}
use Rattle.std.specs.Vec.{with_item}
use Rattle.sdd_script_text.specs.Actions as call
use Rattle.sdd_script_text.specs.declared.answer.Reply.TheVariants as reply
use Rattle.sdd_script.proofs.acts.owners.retire.Goals as goal

pub returns-in_default : goal.returns-in_default
returns-in_default c = record {
  acts = rw (← c.interpreter.view_is) (nobody c.interpreter.inside.environment c.args.name _ c.in_default.ensures
      (λ valid. valid.0));
}

retired : (c : goal.After-interpreter-1) → Does (state_of c.interpreter.inside.environment) (At c.args.name (call.Retire c.args.owner)) reply.Done
    (record (with_dates c.interpreter.inside.environment
    (with_item c.interpreter.inside.environment.log.dates c.slot_of_sole-slot.result c.interpreter.inside.environment.log.moment)) {
      world = c.at.new.world;
      owners = c.take_sole.new.owners;
    })
retired c =
    let at = here c.args.name.0 c.interpreter.invariant c.is_whole.ensures c.in-Some.ensures in
    let took = c.in-Some-take_sole.ensures in
    let its = ap sole_slot (named-as owner_holding c.interpreter.inside.environment.owners.entries.items c.args.owner.0 took.0) in
    leaves at refl (simp (c.at.ensures.done.0, took.1, c.slot_of_sole-slot.ensures, map-set))
    (retired-leaves (state_of c.interpreter.inside.environment) at.tied.sound at.whole _ _ c.args.owner.0 (sits at) its c.at.ensures.done.1)
    ((attends at, ap is_some its), rw (place-is at) (_, its, refl))

pub invariant_of-interpreter-2 : goal.invariant_of-interpreter-2
invariant_of-interpreter-2 c = (retired c).0

pub returns : goal.returns
returns c = record { acts = rw (← c.interpreter.view_is) (retired c).1 }

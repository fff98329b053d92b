use Rattle.sdd_script.proofs.Words.{refl, At, state_of, ap, in_world, Environment, NamedParticipant, Reply, World, Val, Does, Here, GuardName, PlaceName, HasOpen, IsValid, ScriptState, index_of, ℕ, invalid, leaves, place-is, sits, under, does, goes, still, accelerated-leaves, stirred-leaves}
use Rattle.sdd_script_text.specs.Actions as call
use Rattle.sdd_interpreter.specs.declared.commands.guards.GuardUse.{GuardUse}
use Rattle.sdd_interpreter.specs.declared.commands.guards.GuardUse.TheVariants.{Epoch, Garbage, Set, Accelerate}
use Rattle.sdd_interpreter.specs.Guards.{Uses}
use Rattle.sdd_script.specs.ItemLines.{using_guard}
use Rattle.sdd_script.proofs.acts.guards.use_guard.Goals as goal

-- who uses a guard has it has
valid : (d : ScriptState) (n : ℕ) (usage : GuardUse) (g : GuardName) → IsValid d n (using_guard usage g) → HasOpen d n g.0
valid d n Epoch g is = is
valid d n Garbage g is = is
valid d n Set g is = is
valid d n Accelerate g is = is

pub returns-in_default : goal.returns-in_default
returns-in_default c = record {
  acts = rw (← c.interpreter.view_is) (invalid (state_of c.interpreter.inside.environment) c.args.name (using_guard c.args.usage c.args.guard)
      (λ is. c.in_default.ensures.valid (valid (state_of c.interpreter.inside.environment) c.args.name.0 c.args.usage c.args.guard is)));
}

used : {h : Environment} (name : PlaceName) {a : NamedParticipant} (at : Here h name.0 a) (usage : GuardUse) (g : GuardName) → HasOpen (state_of h) name.0 g.0 →
    (given : Reply) (w : World Val) → Uses usage (index_of a.place) h.world given w →
    Does (state_of h) (At name (using_guard usage g)) given (record h { world = w })
used {h} name at Epoch g has given w (told, same) =
    does (state_of h) (At name (call.Epoch g)) given (goes (ap (in_world (state_of h)) same) at.tied.sound at.tied.guards)
    (still (state_of h) (At name (call.Epoch g)) given (rw told (has, (refl, refl))))
used {h} name at Garbage g has given w (told, same) =
    does (state_of h) (At name (call.Garbage g)) given (goes (ap (in_world (state_of h)) same) at.tied.sound at.tied.guards)
    (still (state_of h) (At name (call.Garbage g)) given (rw told (has, rw (place-is at) (refl, refl))))
used {h} name at Set g has given w (told, world) =
    leaves at refl (simp world) (stirred-leaves (state_of h) at.tied.sound at.whole _ (sits at)) (rw told (has, rw (place-is at) refl))
used {h} name at Accelerate g has given w (told, world) =
    leaves at refl (simp world) (accelerated-leaves (state_of h) at.tied.sound at.whole _ (sits at)) (rw told (has, rw (place-is at) refl))

done : (c : goal.After-at) → Does (state_of c.interpreter.inside.environment) (At c.args.name (using_guard c.args.usage c.args.guard)) c.at.result
    (record c.interpreter.inside.environment { world = c.at.new.world })
done c =
    used c.args.name (under c.args.name.0 c.interpreter.invariant c.is_whole.ensures c.in-Some.ensures.found.0) c.args.usage c.args.guard c.in-Some.ensures.valid
    c.at.result c.at.new.world c.at.ensures.done

pub invariant_of-interpreter : goal.invariant_of-interpreter
invariant_of-interpreter c = (done c).0

pub returns : goal.returns
returns c = record { acts = rw (← c.interpreter.view_is) (done c).1 }

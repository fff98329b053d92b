use Rattle.sdd_script.proofs.Words.{refl, sym}
use Rattle.sdd_script.proofs.ScriptEnd.{spends-nothing, spends-guard}
use Rattle.sdd_script.proofs.acts.leaving.spend_guard.Goals as goal

pub returns-in-Some : goal.returns-in-Some
returns-in-Some c =
    let acts = rw (← c.interpreter.view_is) at c.close_guard.ensures.acts in
    rw (← c.interpreter.view_is)
    (spends-guard c.interpreter.inside.environment c.interpreter.invariant c.args.guard c.in-Some.held.now (sym c.in-Some.ensures) _ _ refl refl _ _ acts)

pub returns-in_default : goal.returns-in_default
returns-in_default c =
    rw (← c.interpreter.view_is) (spends-nothing c.interpreter.inside.environment c.interpreter.invariant c.args.guard (sym c.in_default.ensures))

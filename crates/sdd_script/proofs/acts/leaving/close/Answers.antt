use Rattle.sdd_script.proofs.Words.{guarding}
use Rattle.sdd_script.proofs.ScriptEnd.{none-in}
use Rattle.sdd_script.proofs.acts.leaving.close.Goals as goal

pub spend_collectors-requires-clause-shut : goal.spend_collectors-requires-clause-shut
spend_collectors-requires-clause-shut c =
    none-in guarding (λ x e. cc) c.interpreter.inside.environment.guards.entries.items (rw (← c.interpreter.view_is) at c.spend_guards.ensures.spent)

pub spend_names-requires-clause-shut : goal.spend_names-requires-clause-shut
spend_names-requires-clause-shut c =
    rw c.spend_collectors.ensures.rest
    (none-in guarding (λ x e. cc) c.interpreter.inside.environment.guards.entries.items (rw (← c.interpreter.view_is) at c.spend_guards.ensures.spent))

pub unreachable-requires : goal.unreachable-requires
unreachable-requires c =
    let spent = c.spend_names.ensures.spent in
    let ok = c.close.ensures.exactly.1 (spent.quiet, spent.goes) in
    absurd (let never = rw c.in-Err.is at ok in cc)

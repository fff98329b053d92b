use Rattle.sdd_interpreter.proofs.OpenGuards.{none-open}
use Rattle.sdd_interpreter.proofs.participants.under_any.Goals as goal

pub returns-in_err-held : goal.returns-in_err-held
returns-in_err-held c =
    rw c.from_residual-in_err-held.ensures
    (none-open c.args.places.now.entries.items c.args.guards.now.entries.items c.args.name.0 c.in_ok-participant.participant.now c.in_ok-participant.ensures
    (λ g held e. rw (← c.index.ensures) (c.in_err-held.ensures g held e)))

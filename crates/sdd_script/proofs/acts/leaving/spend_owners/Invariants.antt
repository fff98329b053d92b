use Rattle.sdd_script.proofs.Words.{index_of, GoesOn}
use Rattle.sdd_script.proofs.ScriptEnd.{Spends}
use Rattle.sdd_script.proofs.acts.leaving.spend_owners.Given as goal

abbrev pub invariant-loop-owner : goal.invariant-loop-owner
invariant-loop-owner l =
    Spends (λ old new. GoesOn old new (index_of l.place)) (λ h. h.owners.entries.items)
    (λ old new. record old { world = new.world; owners = new.owners }) l.initial.environment l.environment l.owner

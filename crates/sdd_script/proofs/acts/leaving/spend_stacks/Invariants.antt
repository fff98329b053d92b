use Rattle.sdd_script.proofs.Words.{index_of, GoesOn}
use Rattle.sdd_script.proofs.ScriptEnd.{Spends}
use Rattle.sdd_script.proofs.acts.leaving.spend_stacks.Given as goal

abbrev pub invariant-loop-stack : goal.invariant-loop-stack
invariant-loop-stack l =
    Spends (λ old new. GoesOn old new (index_of l.place)) (λ h. h.lists.stacks.entries.items)
    (λ old new. record old { world = new.world; lists = record old.lists { stacks = new.lists.stacks } }) l.initial.environment l.environment l.stack

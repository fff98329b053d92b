use Rattle.sdd_script.proofs.Words.{index_of, GoesOn}
use Rattle.sdd_script.proofs.ScriptEnd.{Spends}
use Rattle.sdd_script.proofs.acts.leaving.spend_queues.Given as goal

abbrev pub invariant-loop-queue : goal.invariant-loop-queue
invariant-loop-queue l =
    Spends (λ old new. GoesOn old new (index_of l.place)) (λ h. h.lists.queues.entries.items)
    (λ old new. record old { world = new.world; lists = record old.lists { queues = new.lists.queues } }) l.initial.environment l.environment l.queue

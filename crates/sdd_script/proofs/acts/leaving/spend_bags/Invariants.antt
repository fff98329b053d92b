use Rattle.sdd_script.proofs.Words.{index_of, GoesOn}
use Rattle.sdd_script.proofs.ScriptEnd.{Spends}
use Rattle.sdd_script.proofs.acts.leaving.spend_bags.Given as goal

abbrev pub invariant-loop-bag : goal.invariant-loop-bag
invariant-loop-bag l =
    Spends (λ old new. GoesOn old new (index_of l.place)) (λ h. h.lists.bags.entries.items)
    (λ old new. record old { world = new.world; lists = record old.lists { bags = new.lists.bags } }) l.initial.environment l.environment l.bag

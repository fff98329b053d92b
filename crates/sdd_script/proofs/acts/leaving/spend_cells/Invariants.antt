use Rattle.sdd_script.proofs.Words.{index_of, GoesOn}
use Rattle.sdd_script.proofs.ScriptEnd.{Spends}
use Rattle.sdd_script.proofs.acts.leaving.spend_cells.Given as goal

abbrev pub invariant-loop-cell : goal.invariant-loop-cell
invariant-loop-cell l =
    Spends (λ old new. GoesOn old new (index_of l.place)) (λ h. h.cells.entries.items)
    (λ old new. record old { world = new.world; cells = new.cells }) l.initial.environment l.environment l.cell

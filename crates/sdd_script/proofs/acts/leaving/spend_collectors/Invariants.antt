use Rattle.sdd_script.proofs.Words.{state_of, IsSound, KeepsTold}
use Rattle.sdd_script.proofs.ScriptEnd.{Spends}
use Rattle.sdd_script.proofs.acts.leaving.spend_collectors.Given as goal

abbrev pub invariant-loop-collector : goal.invariant-loop-collector
invariant-loop-collector l =
    Spends (λ old new. IsSound (state_of new) × KeepsTold old.world new.world) (λ h. h.collectors.entries.items)
    (λ old new. record old { world = new.world; collectors = new.collectors }) l.initial.environment l.environment l.collector

use Rattle.sdd_script.proofs.Words.{◌≡◌, ◌≢◌, ◌<◌, ℕ, Some, Raw, standing_at, index_of, GoesOn}
use Rattle.sdd_script.proofs.acts.leaving.give_up_raw_items.Given as goal

abbrev pub invariant-loop-slot : goal.invariant-loop-slot
invariant-loop-slot l = record {
  goes : GoesOn l.initial.environment l.environment (index_of l.place);
  gone : (k : ℕ) → k < l.slot → standing_at l.environment.world k ≢ Some Raw;
  rest : l.environment ≡ record l.initial.environment { world = l.environment.world };
}

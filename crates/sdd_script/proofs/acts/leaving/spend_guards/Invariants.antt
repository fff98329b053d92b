use Rattle.sdd_script.proofs.Words.{◌≡◌, length, IsSpentTo}
use Rattle.sdd_script.proofs.acts.leaving.spend_guards.Given as goal

abbrev pub invariant-loop-guard : goal.invariant-loop-guard
invariant-loop-guard l = record {
  spent : IsSpentTo l.guard (length l.initial.interpreter.guards) l.interpreter.guards;
  tally : l.interpreter.world.tally ≡ l.initial.interpreter.world.tally;
}

use Rattle.sdd_script.proofs.Words.{◌≡◌, ◌≤◌, length, take, vec_capacity, Runs}
use Rattle.sdd_script.proofs.runner.run.Given as goal

-- the calls so far ran
abbrev pub invariant-loop-call : goal.invariant-loop-call
invariant-loop-call l = record {
  runs : Runs l.initial.interpreter (take l.call-index l.calls) l.answers.items l.interpreter;
  moment : l.interpreter.moment ≡ l.call-index;
  answered : length l.answers.items ≡ l.call-index;
  room : length l.calls ≤ vec_capacity l.answers;
}

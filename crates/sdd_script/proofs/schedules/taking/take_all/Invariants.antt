use Rattle.sdd_script.proofs.Words.{◌≡◌, ◌≤◌, [], length, take, vec_capacity, size_for, state, history}
use Rattle.sdd_script.proofs.ScheduleTaken.{answers_behind}
use Rattle.sdd_script.proofs.schedules.taking.take_all.Given as goal

-- the steps so far are taken and answered
abbrev pub invariant-loop-step : goal.invariant-loop-step
invariant-loop-step l = let size = size_for l.steps in record {
  machine : l.machine ≡ state size (history size (take l.step-index l.steps));
  answers : l.answers.items ≡ answers_behind size [] (take l.step-index l.steps);
  answered : length l.answers.items ≡ l.step-index;
  room : length l.steps ≤ vec_capacity l.answers;
}

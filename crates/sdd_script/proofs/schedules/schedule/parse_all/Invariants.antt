use Rattle.sdd_script.proofs.Words.{◌≡◌, ◌≤◌, ◌++◌, length, map, AllByRecursion, most_calls, lines, line_of, HasNumbers}
use Rattle.sdd_script.proofs.schedules.schedule.parse_all.Given as goal

-- the steps so far, and the lines that are left, are the lines of the text
abbrev pub invariant-loop-rest : goal.invariant-loop-rest
invariant-loop-rest l = record {
  lines : map line_of l.steps.items ++ lines l.rest ≡ lines l.text;
  numbers : AllByRecursion HasNumbers l.steps.items;
  few : length l.steps.items ≤ most_calls;
}

abbrev pub decreases-loop-rest : goal.decreases-loop-rest
decreases-loop-rest l = length l.rest

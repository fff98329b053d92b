use Rattle.sdd_script_text.proofs.Words.{◌≡◌, ◌≤◌, ◌++◌, length, map, AllByRecursion, line_of, HasNumbers, most_calls, lines}
use Rattle.sdd_script_text.proofs.script.parse_all.Given as goal

-- the calls so far, and the lines that are left, are the lines of the text
abbrev pub invariant-loop-rest : goal.invariant-loop-rest
invariant-loop-rest l = record {
  lines : map line_of l.calls.items ++ lines l.rest ≡ lines l.text;
  numbers : AllByRecursion HasNumbers l.calls.items;
  few : length l.calls.items ≤ most_calls;
}

abbrev pub decreases-loop-rest : goal.decreases-loop-rest
decreases-loop-rest l = length l.rest

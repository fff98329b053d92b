use Rattle.sdd_script_text.proofs.Words.{◌≡◌, ◌++◌, length, map, AllByRecursion, word_of, words, HasNumber}
use denote.Shadow.{shadow}
use denote.Text.{Utf8}
use Rattle.sdd_script_text.proofs.call.reading.arguments.Given as goal

-- the arguments so far, and the words that are left, are the words of the text
abbrev pub invariant-loop-word : goal.invariant-loop-word
invariant-loop-word l = record {
  text : shadow (Utf8 l.rest);
  words : map word_of l.found ++ words l.rest ≡ words l.text;
  numbers : AllByRecursion HasNumber l.found;
}

abbrev pub decreases-loop-word : goal.decreases-loop-word
decreases-loop-word l = length (words l.rest)

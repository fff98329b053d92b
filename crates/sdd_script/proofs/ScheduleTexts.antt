-- The lines of a text, and the steps that they are
use Rattle.sdd_script.proofs.Words.{◌≡◌, ℕ, ◌+◌, ◌<◌, ◌≤◌, List, ◌∷◌, ◌++◌, length, map, AllByRecursion, lines, most_calls, Step, line_of, HasNumbers, IsStepText, AreSteps, IsFirstFault}
use Rattle.sdd_script_text.proofs.Scripts.{first_other, no_other, only_lines}
use Rattle.sdd_script.proofs.ScheduleLines.{own_texts}

pub first_fault : (text line : List ℕ) (before : List Step) (after : List (List ℕ)) (n : ℕ) → map line_of before ++ line ∷ after ≡ lines text →
    AllByRecursion HasNumbers before → length before ≤ most_calls → n ≡ length before + 1 →
    ¬ ((length before < most_calls) × IsStepText line) → IsFirstFault text n
first_fault = first_other line_of HasNumbers

pub no_fault : (text line : List ℕ) (before steps : List Step) (after : List (List ℕ)) → map line_of before ++ line ∷ after ≡ lines text →
    ¬ ((length before < most_calls) × IsStepText line) → AreSteps text steps → ⊥
no_fault = no_other line_of HasNumbers

pub only_steps : (text rest : List ℕ) (a b : List Step) → map line_of a ++ lines rest ≡ lines text → length rest ≡ 0 → AllByRecursion HasNumbers a →
    AreSteps text b → a ≡ b
only_steps = only_lines line_of HasNumbers own_texts

pub ruleset one_schedule = (first_fault, no_fault, only_steps)

-- The texts of what steps did
use Rattle.std.specs.Prelude.{ℕ, Bool, true, false, List, [], ◌∷◌, ◌++◌, codes}
use Rattle.std.specs.List.{flat_map}
use Rattle.std.specs.Fmt.{decimal}
use Rattle.sdd_script_text.specs.Call.{joined}
use Rattle.sdd_machine.specs.declared.machine.steps.Did.{Did}
use Rattle.sdd_machine.specs.declared.machine.steps.Did.TheVariants.{NotPossible, Done, Opened, Looked, Advanced}

-- whether the count is another one than at the opening before
abbrev pub found : Bool → List ℕ
found true = codes "changed"
found false = codes "same"

abbrev pub words_of : Did → List (List ℕ)
words_of NotPossible = codes "not" ∷ codes "possible" ∷ []
words_of Done = codes "done" ∷ []
words_of (Opened count changed reclaimed) = codes "opened" ∷ decimal count ∷ found changed ∷ codes "reclaimed" ∷ decimal reclaimed ∷ []
words_of (Looked true) = codes "passed" ∷ []
words_of (Looked false) = codes "not" ∷ codes "passed" ∷ []
words_of (Advanced true) = codes "raised" ∷ []
words_of (Advanced false) = codes "not" ∷ codes "raised" ∷ []

-- an answer, without a line feed
abbrev pub text_of : Did → List ℕ
text_of answer = joined (words_of answer)

-- answers, each with a line feed behind it
abbrev pub text_of_all : List Did → List ℕ
text_of_all answers = flat_map (λ answer. text_of answer ++ codes "\n") answers

-- what is printed in place of answers where this line is the first that is no step
abbrev pub text_of_fault : ℕ → List ℕ
text_of_fault line = codes "line " ++ decimal line ++ codes ": not a step\n"

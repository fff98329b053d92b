-- What the program is to do, by its arguments
use Rattle.std.specs.Prelude.{◌≡◌, ℕ, List, [], ◌∷◌, codes}
use Rattle.sdd_core.specs.declared.limits.Limits.{Limits}
use Rattle.sdd_script_text.specs.Call.{IsWordOf}
use Rattle.sdd_script_text.specs.declared.arguments.Choice.{Choice}
use Rattle.sdd_script_text.specs.declared.arguments.Choice.TheVariants.{Script, Steps, Usage}

-- the limits of a script where none are given
abbrev pub usual_limits : Limits
usual_limits = record { participants = 8; slots = 64; cells = 128; jobs = 8; nesting = 8; tries = 1 }

-- the words are these numbers, one for each
abbrev pub AreWordsOf : List ℕ → List (List ℕ) → Type 0
AreWordsOf [] [] = Unit {0}
AreWordsOf (n ∷ numbers) (word ∷ words) = IsWordOf n word × AreWordsOf numbers words
AreWordsOf [] (word ∷ words) = ⊥
AreWordsOf (n ∷ numbers) [] = ⊥

-- the words are the six numbers of these limits, in their order
abbrev pub AreLimits : Limits → List (List ℕ) → Type 0
AreLimits l words = AreWordsOf (l.participants ∷ l.slots ∷ l.cells ∷ l.jobs ∷ l.nesting ∷ l.tries ∷ []) words

-- the words ask for a schedule
abbrev pub AreSteps : List (List ℕ) → Type 0
AreSteps words = words ≡ codes "steps" ∷ []

-- what these arguments choose
abbrev pub Chooses : List (List ℕ) → Choice → Type 0
Chooses [] (Script limits) = limits ≡ usual_limits
Chooses [] choice = ⊥
Chooses (word ∷ words) (Script limits) = AreLimits limits (word ∷ words)
Chooses (word ∷ words) Steps = AreSteps (word ∷ words)
Chooses (word ∷ words) Usage = ¬ (AreSteps (word ∷ words)) × ¬ ((limits : Limits) × AreLimits limits (word ∷ words))

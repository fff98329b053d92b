-- The texts of steps: a verb and the numbers behind it, with one space between two words
use Rattle.std.specs.Prelude.{◌≡◌, ℕ, ◌<◌, List, [], ◌∷◌, codes, map}
use Rattle.std.specs.Fmt.{decimal}
use Rattle.sdd_script_text.specs.Call.{joined}
use Rattle.sdd_machine.specs.declared.machine.steps.Step.{Step}
use Rattle.sdd_machine.specs.declared.machine.steps.Step.TheVariants.{Register, Read, Publish, Retire, Lock, Adopt, Look, Advance, Unlock, Close, End}
use Rattle.sdd_machine.specs.Sizes.{place_named, item_named}
use Rattle.sdd_machine.specs.Table.{greatest_size}

abbrev pub verb_of : Step → List ℕ
verb_of (Register place) = codes "register"
verb_of (Read place) = codes "read"
verb_of (Publish place) = codes "publish"
verb_of (Retire place item) = codes "retire"
verb_of (Lock place) = codes "lock"
verb_of (Adopt place) = codes "adopt"
verb_of (Look place) = codes "look"
verb_of (Advance place) = codes "advance"
verb_of (Unlock place) = codes "unlock"
verb_of (Close place) = codes "close"
verb_of (End place) = codes "end"

-- the numbers that it names: a place, and an item where it is retired
abbrev pub numbers_of : Step → List ℕ
numbers_of (Retire place item) = place ∷ item ∷ []
numbers_of step = place_named step ∷ []

abbrev pub words_of : Step → List (List ℕ)
words_of step = verb_of step ∷ map decimal (numbers_of step)

-- The one text of a step, without a line feed. It has no other spaces, no leading zeros and no byte that isn't ASCII,
-- and is far below 200 bytes, as that of a call.
abbrev pub line_of : Step → List ℕ
line_of step = joined (words_of step)

-- a word is this number, which is below the limit, without a sign and without leading zeros
abbrev pub IsBelow : (limit number : ℕ) → List ℕ → Type 0
IsBelow limit number word = (number < limit) × (decimal number ≡ word)

-- its numbers are those of a place and an item that a machine may have
abbrev pub HasNumbers : Step → Type 0
HasNumbers step = (place_named step < greatest_size.places) × (item_named step < greatest_size.items)

-- a line is the text of this step
abbrev pub IsTextOf : Step → List ℕ → Type 0
IsTextOf step line = HasNumbers step × (line_of step ≡ line)

-- a line is the text of a step
abbrev pub IsStepText : List ℕ → Type 0
IsStepText line = (step : Step) × IsTextOf step line

-- The lines of a text, and what they are: the calls of a script, say
use Rattle.std.specs.Prelude.{◌≡◌, ℕ, ◌+◌, ◌<◌, ◌≤◌, List, [], ◌∷◌, ◌++◌, length, map, if◌then◌else◌, ◌==◌}
use Rattle.std.specs.List.{onto_first, AllByRecursion}
use Rattle.sdd_script_text.specs.Call.{line_of, HasNumbers}
use Rattle.sdd_script_text.specs.declared.call.Call.{Call}
use Rattle.sdd_script_text.specs.declared.script.Script.{Script}
use Rattle.sdd_script_text.specs.declared.script.Script.TheVariants.{Calls, Fault}

-- the lines of a text: each ends with a line feed, which the last may lack
abbrev pub lines : List ℕ → List (List ℕ)
lines [] = []
lines (byte ∷ bytes) = if byte == 10 then [] ∷ lines bytes else onto_first byte (lines bytes)

-- at most so many lines are calls, and the next is not
abbrev pub most_calls : ℕ
most_calls = 65536

-- What a line can be, a call say, has one text, where its numbers are in their ranges, and so it fits.

-- a line is the text of one that fits
abbrev pub IsTextOfSome : {A : Type 0} → (A → List ℕ) → (A → Type 0) → List ℕ → Type 0
IsTextOfSome {A} text_of Fits line = (x : A) × (Fits x × (text_of x ≡ line))

-- the lines of a text are the texts of these
pub record AreLines {A : Type 0} (text_of : A → List ℕ) (Fits : A → Type 0) (text : List ℕ) (xs : List A) : Type 0 where
  pub texts : lines text ≡ map text_of xs
  pub numbers : AllByRecursion Fits xs
  pub few : length xs ≤ most_calls

-- line n, counted from 1, is the first that is the text of none: the lines before it are the texts of some, and it is that of none, or they are as many as
-- may be
pub record IsFirstOther {A : Type 0} (text_of : A → List ℕ) (Fits : A → Type 0) (text : List ℕ) (n : ℕ) : Type 0 where
  pub before : List A
  pub line : List ℕ
  pub after : List (List ℕ)
  pub texts : lines text ≡ map text_of before ++ line ∷ after
  pub numbers : AllByRecursion Fits before
  pub few : length before ≤ most_calls
  pub counted : n ≡ length before + 1
  pub fault : ¬ ((length before < most_calls) × IsTextOfSome text_of Fits line)

-- the lines are calls, and these are they
abbrev pub AreCalls : List ℕ → List Call → Type 0
AreCalls text calls = AreLines line_of HasNumbers text calls

-- line n is the first that is no call
abbrev pub IsFirstFault : List ℕ → ℕ → Type 0
IsFirstFault text n = IsFirstOther line_of HasNumbers text n

-- a text is this script
abbrev pub IsScript : List ℕ → Script → Type 0
IsScript text (Calls calls) = AreCalls text calls.items
IsScript text (Fault n) = IsFirstFault text n

-- a script is these calls
abbrev pub IsCalls : List Call → Script → Type 0
IsCalls calls (Calls read) = read.items ≡ calls
IsCalls calls (Fault n) = ⊥

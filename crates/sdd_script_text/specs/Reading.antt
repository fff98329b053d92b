-- Reading a line, word by word. Only private functions cite this: what a line is, `Call` says by the calls' own texts.
use Rattle.std.specs.Prelude.{◌≡◌, ℕ, ◌^◌, ◌&&◌, List, [], ◌∷◌, Option, Some, None, true, false, IfSome, codes, length, if◌then◌else◌, ◌==◌, nat_lt}
use Rattle.std.specs.Option.{option_and_then}
use Rattle.std.specs.Fmt.{decimal}
use Rattle.std.specs.Str.{bytes_eq}
use Rattle.std.specs.Str.Parse.{digits_value}
use Rattle.sdd_core.specs.declared.tag.Tag.TheVariants as tag
use Rattle.sdd_script_text.specs.Call.{words, spoken, word_of, IsWordOf}
use Rattle.sdd_script_text.specs.declared.name.GuardName.{GuardName}
use Rattle.sdd_script_text.specs.declared.name.ListName.{ListName}
use Rattle.sdd_script_text.specs.declared.name.ListName.TheVariants as list
use Rattle.sdd_script_text.specs.declared.call.action.Action.{Action}
use Rattle.sdd_script_text.specs.Actions as action
use Rattle.sdd_script_text.specs.declared.call.Value.TheVariants as value
use Rattle.sdd_script_text.specs.declared.call.Argument.{Argument}
use Rattle.sdd_script_text.specs.declared.call.Argument.TheVariants.{Number, Guard, Owner, Item, Cell, Collector, Queue, Stack, Bag, Tag, Word}
use Rattle.sdd_script_text.specs.declared.call.Word.TheVariants.{Owned, Shared, Of, If, Was, Now, Mark, Plain}
use Rattle.sdd_script_text.specs.declared.call.Call.{Call}
use Rattle.sdd_script_text.specs.declared.call.Call.TheVariants.{Register, Tally, At}

infixl 10 ◌>>=◌
abbrev pub ◌>>=◌ : {A B : Type 0} → Option A → (A → Option B) → Option B
o >>= f = option_and_then f o

-- the one number that a word is, if it is any
pub record IsNumberOf (word : List ℕ) (number : Option ℕ) : Type 0 where
  pub sound : IfSome number (λ n. IsWordOf n word)
  pub whole : (n : ℕ) → IsWordOf n word → number ≡ Some n

-- a number of 64 bits, in its one form
unfoldable pub number_at : List ℕ → Option ℕ
number_at word = if bytes_eq (decimal (digits_value 10 word)) word && nat_lt (digits_value 10 word) (2 ^ 64) then Some (digits_value 10 word) else None

-- a letter, and then a number
abbrev pub numbered_at : ℕ → List ℕ → Option ℕ
numbered_at letter [] = None
numbered_at letter (byte ∷ bytes) = if byte == letter then number_at bytes else None

-- a number by itself, or behind a letter that says what it names
abbrev pub numbered_argument_at : List ℕ → Option Argument
numbered_argument_at [] = None
numbered_argument_at (byte ∷ bytes) =
    if byte == 103 then (number_at bytes >>= λ n. Some (Guard (record { 0 = n })))
    else if byte == 111 then (number_at bytes >>= λ n. Some (Owner (Some (record { 0 = n }))))
    else if byte == 105 then (number_at bytes >>= λ n. Some (Item (Some (record { 0 = n }))))
    else if byte == 99 then (number_at bytes >>= λ n. Some (Cell (record { 0 = n })))
    else if byte == 107 then (number_at bytes >>= λ n. Some (Collector (record { 0 = n })))
    else if byte == 113 then (number_at bytes >>= λ n. Some (Queue (record { 0 = n })))
    else if byte == 115 then (number_at bytes >>= λ n. Some (Stack (record { 0 = n })))
    else if byte == 98 then (number_at bytes >>= λ n. Some (Bag (record { 0 = n })))
    else (number_at (byte ∷ bytes) >>= λ n. Some (Number n))

-- the arguments without a number
abbrev pub plain_arguments : List Argument
plain_arguments = Owner None ∷ Item None ∷ Tag tag.None ∷ Tag tag.First ∷ Tag tag.Second ∷ Tag tag.Both
    ∷ Word Owned ∷ Word Shared ∷ Word Of ∷ Word If ∷ Word Was ∷ Word Now ∷ Word Mark ∷ Word Plain ∷ []

-- the first of these arguments that a word is, or else the one with a number
abbrev pub argument_among : List Argument → List ℕ → Option Argument
argument_among [] word = numbered_argument_at word
argument_among (argument ∷ arguments) word = if bytes_eq word (word_of argument) then Some argument else argument_among arguments word

abbrev pub argument_at : List ℕ → Option Argument
argument_at word = argument_among plain_arguments word

-- the arguments that words are, if each is one
abbrev pub arguments_at : List (List ℕ) → Option (List Argument)
arguments_at [] = Some []
arguments_at (word ∷ words) = do
  argument ← argument_at word
  arguments ← arguments_at words
  Some (argument ∷ arguments)

-- no verb has more arguments
abbrev pub most_arguments : ℕ
most_arguments = 8

-- the same of no more words than that
abbrev pub few_arguments_at : List (List ℕ) → Option (List Argument)
few_arguments_at words = if nat_lt most_arguments (length words) then None else arguments_at words

-- the actions on a container with a guard, and those with a number too
abbrev pub with_list : ListName → GuardName → List Action
with_list l g = action.Pop l g ∷ action.Peek l g ∷ action.Len l g ∷ action.List l g ∷ action.CloneList l g ∷ []

abbrev pub with_list_number : ListName → ℕ → GuardName → List Action
with_list_number l n g = action.Push l n g ∷ action.PopIf l n g ∷ []

-- the actions with one argument
abbrev pub with_one : Argument → List Action
with_one (Number n) = action.Owned (value.Number n) ∷ action.Shared (value.Number n) ∷ []
with_one (Guard g) = action.Epoch g ∷ action.Garbage g ∷ action.Set g ∷ action.Accelerate g ∷ action.Defer g ∷ action.Close g ∷ []
with_one (Owner (Some o)) = action.Read o ∷ action.Retire o ∷ action.Release o ∷ action.Clone o ∷ action.Drop o ∷ action.Raw o ∷ []
with_one (Item (Some i)) = action.Unraw i ∷ action.Mark i ∷ action.Unmark i ∷ action.Delete i ∷ action.LinkTag i ∷ []
with_one (Cell c) = action.Tag c ∷ action.Into c ∷ action.CloseCell c ∷ []
with_one (Collector k) = action.CloseCollector k ∷ []
with_one (Queue q) = action.CloseQueue q ∷ []
with_one (Stack s) = action.CloseStack s ∷ []
with_one (Bag b) = action.CloseBag b ∷ []
with_one argument = []

-- with two
abbrev pub with_two : Argument → Argument → List Action
with_two (Queue q) (Guard g) = with_list (list.Queue q) g
with_two (Stack s) (Guard g) = action.All s g ∷ with_list (list.Stack s) g
with_two (Bag b) (Guard g) = action.Take b g ∷ action.Drain b g ∷ action.LenBag b g ∷ []
with_two (Bag b) (Number n) = action.Try b n ∷ []
with_two (Item (Some i)) (Guard g) = action.Look i g ∷ action.Upgrade i g ∷ action.See i g ∷ action.Next i g ∷ []
with_two (Owner (Some o)) (Number n) = action.Put o n ∷ []
with_two (Cell c) (Guard g) = action.Load c g ∷ action.Copy c g ∷ action.Share c g ∷ []
with_two (Word Of) (Owner (Some o)) = action.Owned (value.Of o) ∷ action.Shared (value.Of o) ∷ []
with_two (Word Owned) (Owner x) = action.CellOwned x ∷ []
with_two (Word Shared) (Owner x) = action.CellShared x ∷ []
with_two first second = []

-- with three
abbrev pub with_three : Argument → Argument → Argument → List Action
with_three (Queue q) (Number n) (Guard g) = with_list_number (list.Queue q) n g
with_three (Stack s) (Number n) (Guard g) = with_list_number (list.Stack s) n g
with_three (Bag b) (Number n) (Guard g) = action.Add b n g ∷ []
with_three (Cell c) (Owner x) (Tag t) = action.Swap c x t ∷ []
with_three (Owner (Some o)) (Guard g) (Collector k) = action.Collect o g k ∷ []
with_three first second third = []

-- with four
abbrev pub with_four : Argument → Argument → Argument → Argument → List Action
with_four (Queue q) (Number n) (Number m) (Guard g) = action.PushIf (list.Queue q) n m g ∷ []
with_four (Stack s) (Number n) (Number m) (Guard g) = action.PushIf (list.Stack s) n m g ∷ []
with_four (Cell c) (Tag t) (Word If) (Tag u) = action.TagIf c t u ∷ []
with_four (Item (Some i)) (Owner (Some o)) (Word Mark) (Guard g) = action.Append i o true g ∷ []
with_four (Item (Some i)) (Owner (Some o)) (Word Plain) (Guard g) = action.Append i o false g ∷ []
with_four first second third fourth = []

-- with eight
abbrev pub with_eight : Argument → Argument → Argument → Argument → Argument → Argument → Argument → Argument → List Action
with_eight (Cell c) (Guard g) (Word Was) (Item y) (Tag t) (Word Now) (Owner x) (Tag u) = action.Exchange c g y t x u ∷ []
with_eight first second third fourth fifth sixth seventh eighth = []

-- the actions with these arguments
abbrev pub with_arguments : List Argument → List Action
with_arguments [] = action.Open ∷ action.Collector ∷ action.Queue ∷ action.Stack ∷ action.Bag ∷ action.End ∷ []
with_arguments (a ∷ []) = with_one a
with_arguments (a ∷ b ∷ []) = with_two a b
with_arguments (a ∷ b ∷ c ∷ []) = with_three a b c
with_arguments (a ∷ b ∷ c ∷ d ∷ []) = with_four a b c d
with_arguments (a ∷ b ∷ c ∷ d ∷ e ∷ f ∷ g ∷ h ∷ []) = with_eight a b c d e f g h
with_arguments arguments = []

-- the first of the actions with this verb
abbrev pub called : List ℕ → List Action → Option Action
called verb [] = None
called verb (action ∷ actions) = if bytes_eq verb (spoken action).0 then Some action else called verb actions

-- a verb, and its arguments
abbrev pub action_at : List (List ℕ) → Option Action
action_at [] = None
action_at (verb ∷ words) = few_arguments_at words >>= λ arguments. called verb (with_arguments arguments)

abbrev pub place_call_at : List (List ℕ) → Option Call
place_call_at [] = None
place_call_at (word ∷ words) = do
  n ← numbered_at 112 word
  action ← action_at words
  Some (At (record { 0 = n }) action)

abbrev pub call_at : List ℕ → Option Call
call_at text = if bytes_eq text (codes "register") then Some Register else (if bytes_eq text (codes "tally") then Some Tally else place_call_at (words text))

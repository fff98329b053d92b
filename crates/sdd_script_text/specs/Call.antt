-- The texts of calls: words, with one space between two of them
use Rattle.std.specs.Prelude.{◌≡◌, ℕ, ◌^◌, ◌<◌, ◌==◌, List, [], ◌∷◌, Some, None, true, false, codes, map}
use Rattle.std.specs.List.{join_with_byte, slice_split, AllByRecursion}
use Rattle.std.specs.Fmt.{decimal}
use Rattle.sdd_script_text.specs.Name.{place, guard, owner, item, cell, collector, queue, stack, bag, tag}
use Rattle.sdd_script_text.specs.declared.name.ListName.{ListName}
use Rattle.sdd_script_text.specs.declared.name.ListName.TheVariants as list
use Rattle.sdd_script_text.specs.declared.call.action.Action.{Action}
use Rattle.sdd_script_text.specs.Actions as action
use Rattle.sdd_script_text.specs.declared.call.Value.TheVariants as value
use Rattle.sdd_script_text.specs.declared.call.Argument.{Argument}
use Rattle.sdd_script_text.specs.declared.call.Argument.TheVariants.{Number, Guard, Owner, Item, Cell, Collector, Queue, Stack, Bag, Tag, Word}
use Rattle.sdd_script_text.specs.declared.call.Word.{Word as FixedWord}
use Rattle.sdd_script_text.specs.declared.call.Word.TheVariants.{Owned, Shared, Of, If, Was, Now, Mark, Plain}
use Rattle.sdd_script_text.specs.declared.call.Call.{Call}
use Rattle.sdd_script_text.specs.declared.call.Call.TheVariants.{Register, Tally, At}

-- words as a text
abbrev pub joined : List (List ℕ) → List ℕ
joined words = join_with_byte 32 words

-- the words between the spaces of a text
abbrev pub words : List ℕ → List (List ℕ)
words text = slice_split (λ byte. byte == 32) text

-- a word that a line has in a fixed place
abbrev pub fixed : FixedWord → List ℕ
fixed Owned = codes "owned"
fixed Shared = codes "shared"
fixed Of = codes "of"
fixed If = codes "if"
fixed Was = codes "was"
fixed Now = codes "now"
fixed Mark = codes "mark"
fixed Plain = codes "plain"

-- an argument as a word
abbrev pub word_of : Argument → List ℕ
word_of (Number n) = decimal n
word_of (Guard g) = guard g
word_of (Owner None) = codes "none"
word_of (Owner (Some o)) = owner o
word_of (Item None) = codes "null"
word_of (Item (Some i)) = item i
word_of (Cell c) = cell c
word_of (Collector k) = collector k
word_of (Queue q) = queue q
word_of (Stack s) = stack s
word_of (Bag b) = bag b
word_of (Tag t) = tag t
word_of (Word w) = fixed w

-- the name of a container as an argument
abbrev pub named : ListName → Argument
named (list.Queue q) = Queue q
named (list.Stack s) = Stack s

-- the verb of an action, and its arguments
abbrev pub spoken : Action → List ℕ × List Argument
spoken action.Open = (codes "open", [])
spoken (action.Epoch g) = (codes "epoch", Guard g ∷ [])
spoken (action.Garbage g) = (codes "garbage", Guard g ∷ [])
spoken (action.Set g) = (codes "set", Guard g ∷ [])
spoken (action.Accelerate g) = (codes "accelerate", Guard g ∷ [])
spoken (action.Defer g) = (codes "defer", Guard g ∷ [])
spoken (action.Owned (value.Number n)) = (codes "owned", Number n ∷ [])
spoken (action.Owned (value.Of o)) = (codes "owned", Word Of ∷ Owner (Some o) ∷ [])
spoken (action.Shared (value.Number n)) = (codes "shared", Number n ∷ [])
spoken (action.Shared (value.Of o)) = (codes "shared", Word Of ∷ Owner (Some o) ∷ [])
spoken (action.Read o) = (codes "read", Owner (Some o) ∷ [])
spoken (action.Look i g) = (codes "look", Item (Some i) ∷ Guard g ∷ [])
spoken (action.Upgrade i g) = (codes "upgrade", Item (Some i) ∷ Guard g ∷ [])
spoken (action.Retire o) = (codes "retire", Owner (Some o) ∷ [])
spoken (action.Release o) = (codes "release", Owner (Some o) ∷ [])
spoken (action.Clone o) = (codes "clone", Owner (Some o) ∷ [])
spoken (action.Put o n) = (codes "put", Owner (Some o) ∷ Number n ∷ [])
spoken (action.Drop o) = (codes "drop", Owner (Some o) ∷ [])
spoken (action.Raw o) = (codes "raw", Owner (Some o) ∷ [])
spoken (action.Unraw i) = (codes "unraw", Item (Some i) ∷ [])
spoken (action.See i g) = (codes "see", Item (Some i) ∷ Guard g ∷ [])
spoken (action.CellOwned x) = (codes "cell", Word Owned ∷ Owner x ∷ [])
spoken (action.CellShared x) = (codes "cell", Word Shared ∷ Owner x ∷ [])
spoken (action.Load c g) = (codes "load", Cell c ∷ Guard g ∷ [])
spoken (action.Tag c) = (codes "tag", Cell c ∷ [])
spoken (action.Swap c x t) = (codes "swap", Cell c ∷ Owner x ∷ Tag t ∷ [])
spoken (action.TagIf c t u) = (codes "tagif", Cell c ∷ Tag t ∷ Word If ∷ Tag u ∷ [])
spoken (action.Exchange c g y t x u) =
    (codes "cas", Cell c ∷ Guard g ∷ Word Was ∷ Item y ∷ Tag t ∷ Word Now ∷ Owner x ∷ Tag u ∷ [])
spoken (action.Copy c g) = (codes "copy", Cell c ∷ Guard g ∷ [])
spoken (action.Share c g) = (codes "share", Cell c ∷ Guard g ∷ [])
spoken (action.Into c) = (codes "into", Cell c ∷ [])
spoken action.Collector = (codes "collector", [])
spoken (action.Collect o g k) = (codes "collect", Owner (Some o) ∷ Guard g ∷ Collector k ∷ [])
spoken (action.Mark i) = (codes "mark", Item (Some i) ∷ [])
spoken (action.Unmark i) = (codes "unmark", Item (Some i) ∷ [])
spoken (action.Delete i) = (codes "delete", Item (Some i) ∷ [])
spoken (action.LinkTag i) = (codes "linktag", Item (Some i) ∷ [])
spoken (action.Append i o true g) = (codes "append", Item (Some i) ∷ Owner (Some o) ∷ Word Mark ∷ Guard g ∷ [])
spoken (action.Append i o false g) = (codes "append", Item (Some i) ∷ Owner (Some o) ∷ Word Plain ∷ Guard g ∷ [])
spoken (action.Next i g) = (codes "next", Item (Some i) ∷ Guard g ∷ [])
spoken action.Queue = (codes "queue", [])
spoken action.Stack = (codes "stack", [])
spoken action.Bag = (codes "bag", [])
spoken (action.Push l n g) = (codes "push", named l ∷ Number n ∷ Guard g ∷ [])
spoken (action.PushIf l n m g) = (codes "pushif", named l ∷ Number n ∷ Number m ∷ Guard g ∷ [])
spoken (action.Pop l g) = (codes "pop", named l ∷ Guard g ∷ [])
spoken (action.PopIf l m g) = (codes "popif", named l ∷ Number m ∷ Guard g ∷ [])
spoken (action.All s g) = (codes "all", Stack s ∷ Guard g ∷ [])
spoken (action.Peek l g) = (codes "peek", named l ∷ Guard g ∷ [])
spoken (action.Len l g) = (codes "len", named l ∷ Guard g ∷ [])
spoken (action.List l g) = (codes "list", named l ∷ Guard g ∷ [])
spoken (action.CloneList l g) = (codes "clonelist", named l ∷ Guard g ∷ [])
spoken (action.Add b n g) = (codes "add", Bag b ∷ Number n ∷ Guard g ∷ [])
spoken (action.Try b n) = (codes "try", Bag b ∷ Number n ∷ [])
spoken (action.Take b g) = (codes "take", Bag b ∷ Guard g ∷ [])
spoken (action.Drain b g) = (codes "drain", Bag b ∷ Guard g ∷ [])
spoken (action.LenBag b g) = (codes "len", Bag b ∷ Guard g ∷ [])
spoken (action.Close g) = (codes "close", Guard g ∷ [])
spoken (action.CloseCell c) = (codes "close", Cell c ∷ [])
spoken (action.CloseCollector k) = (codes "close", Collector k ∷ [])
spoken (action.CloseQueue q) = (codes "close", Queue q ∷ [])
spoken (action.CloseStack s) = (codes "close", Stack s ∷ [])
spoken (action.CloseBag b) = (codes "close", Bag b ∷ [])
spoken action.End = (codes "end", [])

-- a place, a verb and its arguments
abbrev pub words_of : Call → List (List ℕ)
words_of Register = codes "register" ∷ []
words_of Tally = codes "tally" ∷ []
words_of (At p action) = place p ∷ (spoken action).0 ∷ map word_of (spoken action).1

-- The one text of a call, without a line feed. It has no other spaces, no leading zeros and no byte that isn't ASCII,
-- and is far below 200 bytes: so these limits of a line follow, and need no words of their own.
abbrev pub line_of : Call → List ℕ
line_of call = joined (words_of call)

-- a number of a call has 64 bits
abbrev pub IsNumber : ℕ → Type 0
IsNumber n = n < 2 ^ 64

-- a word is this number in its one form, without a sign and without leading zeros
abbrev pub IsWordOf : ℕ → List ℕ → Type 0
IsWordOf n word = IsNumber n × (decimal n ≡ word)

abbrev pub HasNumber : Argument → Type 0
HasNumber (Number n) = IsNumber n
HasNumber (Guard g) = IsNumber g.0
HasNumber (Owner (Some o)) = IsNumber o.0
HasNumber (Item (Some i)) = IsNumber i.0
HasNumber (Cell c) = IsNumber c.0
HasNumber (Collector k) = IsNumber k.0
HasNumber (Queue q) = IsNumber q.0
HasNumber (Stack s) = IsNumber s.0
HasNumber (Bag b) = IsNumber b.0
HasNumber argument = Unit {0}

-- the numbers of a call have 64 bits each
abbrev pub HasNumbers : Call → Type 0
HasNumbers Register = Unit {0}
HasNumbers Tally = Unit {0}
HasNumbers (At p action) = IsNumber p.0 × AllByRecursion HasNumber (spoken action).1

-- a line is the text of this call
abbrev pub IsTextOf : Call → List ℕ → Type 0
IsTextOf call line = HasNumbers call × (line_of call ≡ line)

-- a line is the text of a call
abbrev pub IsCallText : List ℕ → Type 0
IsCallText line = (call : Call) × IsTextOf call line

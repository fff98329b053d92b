-- The texts of answers
use Rattle.std.specs.Prelude.{ℕ, List, [], ◌∷◌, ◌++◌, Option, Some, None, map, codes, true, false}
use Rattle.std.specs.List.{flat_map}
use Rattle.std.specs.Fmt.{decimal}
use Rattle.sdd_core.specs.Refused.{number_of}
use Rattle.sdd_core.specs.declared.refused.Refused.{Refused as Refusal}
use Rattle.sdd_core.specs.declared.refused.Refused.TheVariants.{NoSlot, NoCell, NoJob, NoPlace, NoMemory, TooManyGuards, GuardOpen, NotAlone, OwnerOut, Contended, TooManyOwners, BadLimits}
use Rattle.sdd_script_text.specs.Call.{joined}
use Rattle.sdd_script_text.specs.Name.{place, guard, owner, item, cell, collector, queue, stack, bag, job, tag}
use Rattle.sdd_script_text.specs.declared.name.OwnerName.{OwnerName}
use Rattle.sdd_script_text.specs.declared.name.ItemName.{ItemName}
use Rattle.sdd_script_text.specs.declared.answer.Answer.{Answer}
use Rattle.sdd_script_text.specs.declared.answer.Reply.{Reply}
use Rattle.sdd_script_text.specs.declared.answer.Reply.TheVariants.{Place, Tally, Guard, Epoch, Truth, Done, Deleted, Job, Collector, Queue, Stack, Bag, Popped, Many, Kept, KeptEntry, Numbers, Item, Owner, Nothing, Raw, Value, Holding, Cell, Pointer, Tag, Swapped, Exchanged, Differs, Refused, Invalid}

-- the name of a refusal
abbrev pub refusal : Refusal → List ℕ
refusal NoSlot = codes "NoSlot"
refusal NoCell = codes "NoCell"
refusal NoJob = codes "NoJob"
refusal NoPlace = codes "NoPlace"
refusal NoMemory = codes "NoMemory"
refusal TooManyGuards = codes "TooManyGuards"
refusal GuardOpen = codes "GuardOpen"
refusal NotAlone = codes "NotAlone"
refusal OwnerOut = codes "OwnerOut"
refusal Contended = codes "Contended"
refusal TooManyOwners = codes "TooManyOwners"
refusal BadLimits = codes "BadLimits"

-- an owner, or that there is none
abbrev pub held : Option OwnerName → List ℕ
held None = codes "none"
held (Some o) = owner o

-- an item, or that there is none
abbrev pub target : Option ItemName → List ℕ
target None = codes "null"
target (Some i) = item i

-- numbers, or that there are none
abbrev pub words_of_numbers : List ℕ → List (List ℕ)
words_of_numbers [] = codes "none" ∷ []
words_of_numbers (n ∷ ns) = decimal n ∷ map decimal ns

abbrev pub words_of_reply : Reply → List (List ℕ)
words_of_reply (Place p) = place p ∷ []
words_of_reply (Tally t) = codes "made" ∷ decimal t.made ∷ codes "reclaimed" ∷ decimal t.reclaimed ∷ codes "in" ∷ codes "place" ∷ decimal t.in_place ∷ []
words_of_reply (Guard g epoch) = guard g ∷ codes "epoch" ∷ decimal epoch ∷ []
words_of_reply (Epoch epoch) = decimal epoch ∷ []
words_of_reply (Truth true) = codes "true" ∷ []
words_of_reply (Truth false) = codes "false" ∷ []
words_of_reply Done = codes "ok" ∷ []
words_of_reply Deleted = codes "deleted" ∷ []
words_of_reply (Job j) = job j ∷ []
words_of_reply (Collector k) = collector k ∷ []
words_of_reply (Queue q) = queue q ∷ []
words_of_reply (Stack s) = stack s ∷ []
words_of_reply (Bag b) = bag b ∷ []
words_of_reply (Popped o n) = owner o ∷ decimal n ∷ []
words_of_reply (Many n) = decimal n ∷ []
words_of_reply (Kept n) = codes "kept" ∷ decimal n ∷ []
words_of_reply (KeptEntry o n) = codes "kept" ∷ owner o ∷ decimal n ∷ []
words_of_reply (Numbers ns) = words_of_numbers ns
words_of_reply (Item o i) = owner o ∷ item i ∷ []
words_of_reply (Owner o) = owner o ∷ []
words_of_reply Nothing = codes "none" ∷ []
words_of_reply (Raw i) = item i ∷ []
words_of_reply (Value n) = decimal n ∷ []
words_of_reply (Holding i) = codes "of" ∷ item i ∷ []
words_of_reply (Cell c) = cell c ∷ []
words_of_reply (Pointer i t) = target i ∷ tag t ∷ []
words_of_reply (Tag t) = tag t ∷ []
words_of_reply (Swapped o t) = held o ∷ tag t ∷ []
words_of_reply (Exchanged o) = codes "ok" ∷ held o ∷ []
words_of_reply (Differs i t) = codes "differs" ∷ target i ∷ tag t ∷ []
words_of_reply (Refused r) = codes "refused" ∷ decimal (number_of r) ∷ refusal r ∷ []
words_of_reply Invalid = codes "invalid" ∷ []

-- a heading and names, each after a space, where there are names
abbrev pub ending : List ℕ → List (List ℕ) → List ℕ
ending heading [] = []
ending heading (name ∷ names) = flat_map (λ word. 32 ∷ word) (heading ∷ name ∷ names)

-- an answer, without a line feed
abbrev pub text_of : Answer → List ℕ
text_of answer = joined (words_of_reply answer.reply) ++ ending (codes "reclaimed") (map item answer.reclaimed) ++ ending (codes "ran") (map job answer.ran)

-- answers, each with a line feed behind it
abbrev pub text_of_all : List Answer → List ℕ
text_of_all answers = flat_map (λ answer. text_of answer ++ codes "\n") answers

-- what is printed in place of answers where this line is the first that is no call
abbrev pub text_of_fault : ℕ → List ℕ
text_of_fault line = codes "line " ++ decimal line ++ codes ": not a call\n"

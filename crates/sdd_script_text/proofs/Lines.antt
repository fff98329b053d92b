-- The words of a line, the numbers that they are, and the calls: each call is read of its line
use Rattle.sdd_script_text.proofs.Words.{append-nil, flat_map, take_all, ◌↔◌, IsTrue, ◌≡◌, ℕ, ◌+◌, ◌<◌, ◌≤◌, ◌≢◌, Bool, true, false, eqb, leb, ◌&&◌, ◌^◌, List, [], ◌∷◌, ◌++◌, length, length-append, get_or, take, drop, take-append-drop, map, Option, Some, None, IfSome, OnSome, MatchOption, Result, Ok, Err, refl, sym, ap, ap₂, subst, ◌∙◌, lit<, arith, rules, All, decimal, IsAscii, IsUtf8, bytes_eq, codes, ◌==◌, if◌then◌else◌, ne_eqb, eq-eqb, leb-true, nat_lt, AllByRecursion, cond-false, cond_both, false_from_ne_true, length-map, drop_more, get_or-take, length-take-le, bytes_eq-Decides, Call, IsNumber, IsWordOf, joined, words, word_of, spoken, words_of, line_of, HasNumber, HasNumbers, IsTextOf, IsCallText, nat_tests, Decides-eqb, common_steps}
use Rattle.std.proofs.Output.{has_written_append, has_written_of_eq}
use Rattle.std.specs.Result.{result_ok}
use Rattle.std.specs.Int.{IsInRange}
use Rattle.std.specs.Str.Parse.{AllDigits, digits_value, ParsesUnsigned}
use Rattle.std.specs.Str.Pattern.{FindsCharPrefix, HasCharAt}
use Rattle.std.proofs.lemmas.List.Elements.{All-from_get_or, All-cons, All-weaker, All-from_recursion}
use Rattle.std.proofs.lemmas.List.Splits.{slice_split_none, slice_split_at, join_with_byte-slice_split}
use Rattle.std.proofs.lemmas.Str.Pattern.{drop_at_char, strip_prefix_char}
use Rattle.std.proofs.lemmas.Str.Parse.{IsNumeralModel, numerals_by_value, tells_digits, digit_at, parse_plain}
use Rattle.std.proofs.lemmas.Fmt.{decimal_digit, decimal_nonempty, first_decimal, digits_decimal, digits_value-decimal, decimal-digits_value, parse-decimal, length-decimal-le}
use Rattle.std.proofs.lemmas.Str.{IsAscii-append, IsUtf8-from_ascii, lead_after_ascii}
use Rattle.std.proofs.lemmas.Str.Ascii.{IsAscii-cons, IsAscii-from_all}
use Rattle.sdd_core.specs.declared.tag.Tag.TheVariants as tags
use Rattle.sdd_script_text.specs.Name.{place}
use Rattle.sdd_script_text.specs.declared.call.Call.TheVariants.{Register, Tally, At}
use Rattle.sdd_script_text.specs.declared.name.ListName.TheVariants as list
use Rattle.sdd_script_text.specs.declared.call.action.Action.{Action}
use Rattle.sdd_script_text.specs.Actions as action
use Rattle.sdd_script_text.specs.declared.call.Value.TheVariants as value
use Rattle.sdd_script_text.specs.declared.call.Argument.{Argument}
use Rattle.sdd_script_text.specs.declared.call.Argument.TheVariants.{Number, Guard, Owner, Item, Cell, Collector, Queue, Stack, Bag, Tag, Word}
use Rattle.sdd_script_text.specs.declared.call.Word.TheVariants.{Owned, If, Was, Now, Mark, Plain}
use Rattle.sdd_script_text.specs.Reading.{IsNumberOf, number_at, numbered_at, numbered_argument_at, plain_arguments, argument_among, argument_at, place_call_at, call_at, most_arguments, arguments_at, few_arguments_at, with_arguments, called, ◌>>=◌}

-- ---- words

abbrev pub HasNoSpace : List ℕ → Type 0
HasNoSpace word = All (λ b. eqb b 32 ≡ false) word

no_space : (bs : List ℕ) → ((i : ℕ) → i < length bs → get_or bs i 0 ≢ 32) → HasNoSpace bs
no_space bs h = All-from_get_or (λ b. eqb b 32 ≡ false) bs 0 (λ i l. ne_eqb _ 32 (h i l))

-- the first space ends the first word
pub one_word : (bs : List ℕ) → ((i : ℕ) → i < length bs → get_or bs i 0 ≢ 32) → words bs ≡ bs ∷ []
one_word bs h = slice_split_none _ bs (no_space bs h)

pub first_word : (bs : List ℕ) (k : ℕ) → k < length bs → get_or bs k 0 ≡ 32 → ((i : ℕ) → i < k → get_or bs i 0 ≢ 32) →
    words bs ≡ take k bs ∷ words (drop (k + 1) bs)
first_word bs k l e h =
    let before : (i : ℕ) → i < length (take k bs) → i < k = λ i m. omega (arith, m, length-take-le k bs) in
    ap words (sym (take-append-drop k bs) ∙ ap (λ t. take k bs ++ t) (drop_more bs k 0 l ∙ ap (λ b. b ∷ drop (k + 1) bs) e))
    ∙ slice_split_at _ (take k bs) 32 (drop (k + 1) bs) (no_space (take k bs) (λ i m. rw (get_or-take k bs i 0 (before i m)) (h i (before i m)))) refl

-- a list of one is this word where its item is
pub lone_word : {A : Type 0} (f : A → List ℕ) (xs : List A) (x : A) (same : Bool) (text wanted : List ℕ) → same ≡ bytes_eq text wanted → text ≡ f x →
    x ≡ get_or xs 0 x → 1 ≤ length xs → length xs < 2 → IsTrue same ↔ (map f xs ≡ wanted ∷ [])
lone_word f (y ∷ []) x same text wanted s t e l m = grind (arith, nat_tests, bytes_eq-Decides text wanted)
lone_word f xs x same text wanted s t e l m = absurd (omega arith)

pub ruleset by_space = (one_word, first_word, lead_after_ascii)

-- ---- numbers

own : IsNumeralModel (AllDigits 10) (digits_value 10)
own = numerals_by_value _ tells_digits

number_at-decimal : (n : ℕ) → IsNumber n → number_at (decimal n) ≡ Some n
unfolding number_at
number_at-decimal n small = rw (digits_value-decimal own n small) (grind (arith, nat_tests, bytes_eq-Decides (decimal n) (decimal n)))

-- what is the one number of a word, if it has one, is what `number_at` gives
pub number_is : (word : List ℕ) (o : Option ℕ) → IsNumberOf word o → o ≡ number_at word
unfolding number_at
number_is word (Some n) r = sym (ap number_at (sym r.sound.1) ∙ number_at-decimal n r.sound.0)
number_is word None r = grind (arith, nat_tests, bytes_eq-Decides, r.whole (digits_value 10 word))

-- the first byte of a number is a digit, and is no zero before others
pub first_digit : (n : ℕ) (word : List ℕ) → IsWordOf n word → IsInRange 48 57 (get_or word 0 0)
first_digit n word h = rw (← h.1) (digit_at (decimal n) 0 (digits_decimal own n h.0) (decimal_nonempty n h.0))

pub no_zero_led : (n : ℕ) (word : List ℕ) → IsWordOf n word → 1 < length word → 48 < get_or word 0 0
no_zero_led n word h long = grind (arith, first_decimal, decimal_digit, h.1)

-- what `parse` gives for a word with no sign and no zero before other digits is its number
pub parsed : {E : Type 0} (word : List ℕ) (r : Result ℕ E) → ParsesUnsigned 64 10 word r → get_or word 0 0 ≢ 43 →
    ¬ ((1 < length word) × (get_or word 0 0 ≡ 48)) → IfSome (result_ok r) (λ n. IsWordOf n word)
parsed {E} word (Ok x) h plain short =
    let read = parse_plain own {E = E} 64 word (Ok x) h plain in
    (rw read.1 read.0.2, ap decimal read.1 ∙ decimal-digits_value own word read.0.0 read.0.1 (λ e. grind (arith, short, read.0.1)) read.0.2)
parsed {E} word (Err e) h plain short = tt

pub parses : {E : Type 0} (word : List ℕ) (r : Result ℕ E) (n : ℕ) → ParsesUnsigned 64 10 word r → IsWordOf n word → result_ok r ≡ Some n
parses word r n h k = ap result_ok (parse-decimal 64 n word r k.0 k.0 (sym k.1) h)

pub ruleset one_form = (first_digit, no_zero_led, parsed, parses)

-- each number but the first stands behind a space
pub numbers_joined : (n : ℕ) (ns : List ℕ) → decimal n ++ flat_map (λ m. 32 ∷ decimal m) ns ≡ joined (decimal n ∷ map decimal ns)
numbers_joined n [] = append-nil (decimal n)
numbers_joined n (m ∷ ns) = ap (λ t. decimal n ++ 32 ∷ t) (numbers_joined m ns)

pub ruleset in_row = (numbers_joined, has_written_append, has_written_of_eq, take_all, common_steps)

-- ---- a letter and a number

pub no_prefix : (letter : ℕ) (word : List ℕ) → FindsCharPrefix letter word None → letter < 128 → numbered_at letter word ≡ None
no_prefix letter [] h small = refl
no_prefix letter (b ∷ bs) h small = grind (arith, nat_tests, strip_prefix_char letter (b ∷ bs) None h small bs)

pub prefixed : (letter : ℕ) (word : List ℕ) (n : ℕ) (o : Option ℕ) → HasCharAt letter word 0 n → letter < 128 → IsNumberOf (drop n word) o →
    o ≡ numbered_at letter word
prefixed letter word n o h small r = rw (drop_at_char letter word 0 n h small, eq-eqb letter letter refl) (number_is (drop n word) o r)

pub ruleset lettered = (no_prefix, prefixed)

pub unlettered : (n : ℕ) (word : List ℕ) → IsWordOf n word → numbered_argument_at word ≡ Some (Number n)
unlettered n [] h = absurd (omega (arith, first_digit n [] h))
unlettered n (b ∷ bs) h = grind (arith, nat_tests, first_digit n (b ∷ bs) h, number_at-decimal n h.0, h.1)

-- ---- arguments

pub ruleset one_argument = (number_is, unlettered)

-- a word with a digit where none of these has any is none of these
unplain : (xs : List Argument) (k : ℕ) (word : List ℕ) → AllByRecursion (λ a. 57 < get_or (word_of a) k 0) xs → IsInRange 48 57 (get_or word k 0) →
    argument_among xs word ≡ numbered_argument_at word
unplain [] k word l h = refl
unplain (a ∷ xs) k word l h = cond-false _ _ _ (false_from_ne_true (bytes_eq word (word_of a)) (λ same.
    let e = (bytes_eq-Decides word (word_of a)).0 same in absurd (omega (arith, l.0, h.1, ap (λ bytes. get_or bytes k 0) e)))) ∙ unplain xs k word l.1 h

argument_said : (a : Argument) → HasNumber a → argument_at (word_of a) ≡ Some a
argument_said (Number n) h = unplain plain_arguments 0 (decimal n) (search rules) (first_digit n (decimal n) (h, refl)) ∙ unlettered n (decimal n) (h, refl)
argument_said (Owner None) h = refl
argument_said (Item None) h = refl
argument_said (Tag tags.None) h = refl
argument_said (Tag t) h = refl
argument_said (Word Owned) h = refl
argument_said (Word w) h = refl
argument_said a h = unplain plain_arguments 1 (word_of a) (search rules) (first_digit _ (decimal _) (h, refl)) ∙ rw (number_at-decimal _ h) refl

-- and what a word is read as has that word
abbrev IsReadAs : List ℕ → Option Argument → Type 0
IsReadAs word o = IfSome o (λ a. HasNumber a × (word_of a ≡ word))

number_read : (word bytes : List ℕ) (make : ℕ → Argument) → ((n : ℕ) → IsWordOf n bytes → HasNumber (make n) × (word_of (make n) ≡ word)) →
    IsReadAs word (number_at bytes >>= λ n. Some (make n))
unfolding number_at
number_read word bytes make says =
    let n = digits_value 10 bytes in cond_both (bytes_eq (decimal n) bytes && nat_lt n (2 ^ 64)) (Some n) None (λ o. IsReadAs word (o >>= λ n. Some (make n)))
    (λ e. says n (grind (arith, nat_tests), grind (arith, nat_tests, bytes_eq-Decides (decimal n) bytes))) (λ _. tt)

lettered_read : (letter byte : ℕ) (bytes : List ℕ) (make : ℕ → Argument) (rest : Option Argument) → ((n : ℕ) → IsNumber n → HasNumber (make n)) →
    ((n : ℕ) → word_of (make n) ≡ letter ∷ decimal n) → IsReadAs (byte ∷ bytes) rest →
    IsReadAs (byte ∷ bytes) (if byte == letter then (number_at bytes >>= λ n. Some (make n)) else rest)
lettered_read letter byte bytes make rest has says others = cond_both (byte == letter) _ rest (IsReadAs (byte ∷ bytes))
    (λ e. number_read (byte ∷ bytes) bytes make (λ n h. (has n h.0, says n ∙ rw (h.1, (Decides-eqb byte letter).0 e) refl))) (λ _. others)

numbered_read : (word : List ℕ) → IsReadAs word (numbered_argument_at word)
unfolding number_at
numbered_read [] = tt
numbered_read (byte ∷ bytes) = search (rules, lettered_read, number_read (byte ∷ bytes) (byte ∷ bytes) Number (λ n h. h))

among_read : (xs : List Argument) (word : List ℕ) → AllByRecursion HasNumber xs → IsReadAs word (argument_among xs word)
among_read [] word h = numbered_read word
among_read (a ∷ xs) word h = cond_both (bytes_eq word (word_of a)) (Some a) _ (IsReadAs word)
    (λ e. (h.0, sym ((bytes_eq-Decides word (word_of a)).0 e))) (λ _. among_read xs word h.1)

-- so an argument that a word is has the word's text
pub argument_read : (word : List ℕ) (a : Argument) → Some a ≡ argument_at word → HasNumber a × (word_of a ≡ word)
argument_read word a e = rw (← e) at (among_read plain_arguments word (search rules))

-- arguments are what their words are
arguments_said : (xs : List Argument) → AllByRecursion HasNumber xs → arguments_at (map word_of xs) ≡ Some xs
arguments_said [] h = refl
arguments_said (a ∷ xs) h = rw (argument_said a h.0, arguments_said xs h.1) refl

few_said : (xs : List Argument) → AllByRecursion HasNumber xs → length xs ≤ most_arguments → few_arguments_at (map word_of xs) ≡ Some xs
few_said xs h l = grind (arith, nat_tests, length-map xs word_of, arguments_said xs h)

pub all_read : (xs : List Argument) (x : Argument) (word : List ℕ) → AllByRecursion HasNumber xs → Some x ≡ argument_at word →
    length xs < most_arguments → few_arguments_at (map word_of xs ++ word ∷ []) ≡ Some (xs ++ x ∷ [])
all_read xs x word h read l =
    let (k, w) : HasNumber x × (word_of x ≡ word) = argument_read word x read in
    let told : map word_of (xs ++ x ∷ []) ≡ map word_of xs ++ word ∷ [] = grind (arith, common_steps) in
    ap few_arguments_at (sym told) ∙ few_said (xs ++ x ∷ []) (grind (arith, common_steps)) (omega (arith, length-append xs (x ∷ [])))

-- a word that is no argument is none behind others either
pub none_read : (xs : List Argument) (word : List ℕ) (ws : List (List ℕ)) → AllByRecursion HasNumber xs → argument_at word ≡ None →
    arguments_at (map word_of xs ++ word ∷ ws) ≡ None
none_read [] word ws h e = rw e refl
none_read (a ∷ xs) word ws h e = rw (argument_said a h.0, none_read xs word ws h.1 e) refl

pub ruleset by_word = (all_read, none_read, argument_read, nat_tests, length-map, length-append, common_steps)

-- ---- a call as words

-- a word of ASCII, with no space and at most so many bytes
pub record IsWord (most : ℕ) (word : List ℕ) : Type 0 where
  pub plain : All (IsInRange 33 126) word
  pub short : length word ≤ most

pub number_word : (n : ℕ) → IsNumber n → IsWord 20 (decimal n)
number_word n h = record {
  plain = All-from_get_or (IsInRange 33 126) (decimal n) 0 (λ i l.
      let digit = digit_at (decimal n) i (digits_decimal own n h) l in (omega (arith, digit.0), omega (arith, digit.1)));
  short = length-decimal-le 20 n (lit< tt) (omega arith) h;
}

name_word : (letter n : ℕ) → IsInRange 33 126 letter → IsNumber n → IsWord 21 (letter ∷ decimal n)
name_word letter n l h = record {
  plain = All-cons (IsInRange 33 126) letter _ l (number_word n h).plain;
  short = omega (arith, (number_word n h).short);
}

-- each byte is one that may stand in a word: a test, which a written word computes
abbrev pub is_plain : List ℕ → Bool
is_plain [] = true
is_plain (b ∷ bs) = leb 33 b && leb b 126 && is_plain bs

all_plain : (bs : List ℕ) → is_plain bs ≡ true → AllByRecursion (IsInRange 33 126) bs
all_plain [] e = tt
all_plain (b ∷ bs) e = grind (arith, nat_tests, all_plain bs)

pub written_word : (most : ℕ) (word : List ℕ) → is_plain word ≡ true → leb (length word) most ≡ true → IsWord most word
written_word most word plain short =
    record { plain = All-from_recursion (IsInRange 33 126) word (all_plain word plain); short = leb-true (length word) most short }

ruleset as_words = (rules, written_word, number_word, name_word)

-- the bytes of an argument, and of arguments with a space before each, at most
abbrev room_of : Argument → ℕ
room_of (Number n) = 20
room_of (Tag t) = 6
room_of (Word w) = 6
room_of argument = 21

abbrev room : List Argument → ℕ
room [] = 0
room (a ∷ xs) = 1 + (room_of a + room xs)

argument_word : (a : Argument) → HasNumber a → IsWord (room_of a) (word_of a)
argument_word (Owner None) h = search as_words
argument_word (Item None) h = search as_words
argument_word (Tag tags.None) h = search as_words
argument_word (Word Owned) h = search as_words
argument_word a h = search as_words

pub unspaced : (word : List ℕ) → All (IsInRange 33 126) word → HasNoSpace word
unspaced word = All-weaker (IsInRange 33 126) (λ b. eqb b 32 ≡ false) (λ b h. ne_eqb b 32 (λ e. omega (arith, h.0))) word

ascii : (word : List ℕ) → All (IsInRange 33 126) word → IsAscii word
ascii word h = IsAscii-from_all word (All-weaker (IsInRange 33 126) (λ b. b < 128) (λ b k. omega (arith, k.1)) word h)

-- words that are joined are no other words, ASCII, and have at most so many bytes
pub record AreJoined (most : ℕ) (ws : List (List ℕ)) : Type 0 where
  pub apart : words (joined ws) ≡ ws
  pub ascii : IsAscii (joined ws)
  pub short : length (joined ws) ≤ most

pub one_joined : (n : ℕ) (w : List ℕ) → IsWord n w → AreJoined n (w ∷ [])
one_joined n w h = record { apart = slice_split_none _ w (unspaced w h.plain); ascii = ascii w h.plain; short = h.short }

pub more_joined : (n m : ℕ) (w v : List ℕ) (ws : List (List ℕ)) → IsWord n w → AreJoined m (v ∷ ws) → AreJoined (n + (1 + m)) (w ∷ v ∷ ws)
more_joined n m w v ws h rest = record {
  apart = slice_split_at _ w 32 _ (unspaced w h.plain) refl ∙ ap (λ vs. w ∷ vs) rest.apart;
  ascii = IsAscii-append w _ (ascii w h.plain) (IsAscii-cons 32 _ (lit< tt) rest.ascii);
  short = omega (arith, length-append w (32 ∷ joined (v ∷ ws)), h.short, rest.short);
}

all_joined : (n : ℕ) (w : List ℕ) (xs : List Argument) → IsWord n w → AllByRecursion HasNumber xs → AreJoined (n + room xs) (w ∷ map word_of xs)
all_joined n w [] h k = subst (λ m. AreJoined m (w ∷ [])) (omega arith) (one_joined n w h)
all_joined n w (a ∷ xs) h k =
    more_joined n (room_of a + room xs) w (word_of a) (map word_of xs) h (all_joined (room_of a) (word_of a) xs (argument_word a k.0) k.1)

-- the actions with some arguments have these arguments
with_said : (xs : List Argument) → AllByRecursion (λ action. (spoken action).1 ≡ xs) (with_arguments xs)
with_said (Cell c ∷ Guard g ∷ Word Was ∷ Item y ∷ Tag t ∷ Word Now ∷ Owner x ∷ Tag u ∷ []) = (refl, tt)
with_said (a ∷ b ∷ c ∷ d ∷ e ∷ f ∷ g ∷ h ∷ []) = tt
with_said (a ∷ b ∷ c ∷ d ∷ e ∷ xs) = tt
with_said (Cell c ∷ Tag t ∷ Word If ∷ Tag u ∷ []) = (refl, tt)
with_said (Item (Some i) ∷ Owner (Some o) ∷ Word Mark ∷ Guard g ∷ []) = (refl, tt)
with_said (Item (Some i) ∷ Owner (Some o) ∷ Word Plain ∷ Guard g ∷ []) = (refl, tt)
with_said (Queue q ∷ Number n ∷ Number m ∷ Guard g ∷ []) = (refl, tt)
with_said (Stack s ∷ Number n ∷ Number m ∷ Guard g ∷ []) = (refl, tt)
with_said (a ∷ b ∷ c ∷ d ∷ []) = tt
with_said (Cell c ∷ Owner x ∷ Tag t ∷ []) = (refl, tt)
with_said (Bag b ∷ Number n ∷ Guard g ∷ []) = (refl, tt)
with_said (Owner (Some o) ∷ Guard g ∷ Collector k ∷ []) = (refl, tt)
with_said arguments = search rules

called_said : (verb : List ℕ) (xs : List Argument) (actions : List Action) (action : Action) → AllByRecursion (λ a. (spoken a).1 ≡ xs) actions →
    called verb actions ≡ Some action → spoken action ≡ (verb, xs)
called_said verb xs [] action h e = cc e
called_said verb xs (a ∷ actions) action h e =
    let pair : List ℕ → List Argument → List ℕ × List Argument = λ v ys. (v, ys) in
    let here : bytes_eq verb (spoken a).0 ≡ true → spoken a ≡ (verb, xs) = λ same. ap₂ pair (sym ((bytes_eq-Decides verb (spoken a).0).0 same)) h.0 in
    cond_both (bytes_eq verb (spoken a).0) (Some a) _ (λ o. o ≡ Some action → spoken action ≡ (verb, xs))
    (λ same e. cc (here same, e)) (λ _. called_said verb xs actions action h.1) e

-- the action that a verb and its arguments are has these; a verb by itself is the one word of its text
pub said_by : (verb : List ℕ) (xs : List Argument) (action : Action) → called verb (with_arguments xs) ≡ Some action → spoken action ≡ (verb, xs)
said_by verb xs action e = called_said verb xs (with_arguments xs) action (with_said xs) e

pub alone_said : (verb : List ℕ) (o : Option Action) → o ≡ called verb (with_arguments []) → words verb ≡ verb ∷ [] →
    IfSome o (λ action. AllByRecursion HasNumber (spoken action).1 × ((spoken action).0 ∷ map word_of (spoken action).1 ≡ words verb))
alone_said verb None e alone = tt
alone_said verb (Some action) e alone = rw (said_by verb [] action (sym e)) (tt, sym alone)

pub ruleset by_verb = (said_by, alone_said)

-- an action's verb is a word, its arguments are few and short, and no other action has both
abbrev IsSaid : Action → Type 0
IsSaid action = IsWord 10 (spoken action).0 × (length (spoken action).1 ≤ most_arguments) × (room (spoken action).1 ≤ 168)
    × (called (spoken action).0 (with_arguments (spoken action).1) ≡ Some action)

said : (action : Action) → IsSaid action
said action.Open = (written_word 10 _ refl refl, omega arith, omega arith, refl)
said (action.Epoch g) = (written_word 10 _ refl refl, omega arith, omega arith, refl)
said (action.Owned (value.Number n)) = (written_word 10 _ refl refl, omega arith, omega arith, refl)
said (action.Shared (value.Number n)) = (written_word 10 _ refl refl, omega arith, omega arith, refl)
said (action.Put o n) = (written_word 10 _ refl refl, omega arith, omega arith, refl)
said action.Collector = (written_word 10 _ refl refl, omega arith, omega arith, refl)
said (action.Load c g) = (written_word 10 _ refl refl, omega arith, omega arith, refl)
said (action.Into c) = (written_word 10 _ refl refl, omega arith, omega arith, refl)
said (action.Push (list.Queue q) n g) = (written_word 10 _ refl refl, omega arith, omega arith, refl)
said (action.PushIf (list.Queue q) n m g) = (written_word 10 _ refl refl, omega arith, omega arith, refl)
said (action.Pop (list.Queue q) g) = (written_word 10 _ refl refl, omega arith, omega arith, refl)
said (action.PopIf (list.Queue q) m g) = (written_word 10 _ refl refl, omega arith, omega arith, refl)
said (action.Peek (list.Queue q) g) = (written_word 10 _ refl refl, omega arith, omega arith, refl)
said (action.Len (list.Queue q) g) = (written_word 10 _ refl refl, omega arith, omega arith, refl)
said (action.List (list.Queue q) g) = (written_word 10 _ refl refl, omega arith, omega arith, refl)
said (action.CloneList (list.Queue q) g) = (written_word 10 _ refl refl, omega arith, omega arith, refl)
said (action.Append i o true g) = (written_word 10 _ refl refl, omega arith, omega arith, refl)
said action.Bag = (written_word 10 _ refl refl, omega arith, omega arith, refl)
said action = (written_word 10 _ refl refl, omega arith, omega arith, refl)

-- ---- both

-- the line of a call is ASCII and short, and the call is read of it
pub record IsLine (call : Call) : Type 0 where
  pub joined : AreJoined 200 (words_of call)
  pub read : call_at (line_of call) ≡ Some call

pub call_line : (call : Call) → HasNumbers call → IsLine call
call_line Register h = record { joined = one_joined 200 (codes "register") (search as_words); read = refl }
call_line Tally h = record { joined = one_joined 200 (codes "tally") (search as_words); read = refl }
call_line (At p action) h =
    let act = said action in
    let spoken_line = all_joined 10 (spoken action).0 (spoken action).1 act.0 h.1 in
    let line = more_joined 21 _ (place p) _ _ (name_word 112 p.0 (search rules) h.0) spoken_line in record {
      joined = record { apart = line.apart; ascii = line.ascii; short = omega (arith, line.short, act.2) };
      read = ap place_call_at line.apart ∙ rw (number_at-decimal p.0 h.0, few_said (spoken action).1 h.1 act.1, act.3) refl;
    }

pub call_at_answers : (line : List ℕ) (o : Option Call) → o ≡ call_at line → IfSome o (λ call. HasNumbers call × (words_of call ≡ words line)) →
    MatchOption o (¬ IsCallText line) (λ call. IsTextOf call line)
call_at_answers line None e h = λ w. absurd (cc ((call_line w.0 w.1.0).read, ap call_at w.1.1))
call_at_answers line (Some call) e h = (h.0, ap joined h.1 ∙ join_with_byte-slice_split 32 line)

pub short_from_call : (line : List ℕ) (o : Option Call) → MatchOption o (¬ IsCallText line) (λ call. IsTextOf call line) → OnSome o (length line ≤ 200)
short_from_call line None h = tt
short_from_call line (Some call) h = subst (λ l. length l ≤ 200) h.1 (call_line call h.0).joined.short

pub utf8_from_call : (line : List ℕ) → IsCallText line → IsUtf8 line
utf8_from_call line w = IsUtf8-from_ascii line (subst IsAscii w.1.1 (call_line w.0 w.1.0).joined.ascii)

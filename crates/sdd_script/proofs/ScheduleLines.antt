-- The words of a line, and the step that they are
use Rattle.sdd_script.proofs.Words.{◌≡◌, ℕ, ◌^◌, ◌<◌, ◌≤◌, Bool, true, false, List, [], ◌∷◌, length, get_or, map, Option, Some, None, refl, sym, ap, subst, ◌∙◌, arith, rules, ◌==◌, AllByRecursion, Step, line_of, HasNumbers, IsStepText, IsBelow, IsTextOf, MatchOption, OnSome, Retire, codes, drop, if◌then◌else◌, item_named, numbers_of, place_named, verb_of, words_of}
use Rattle.std.specs.Fmt.{decimal}
use Rattle.std.specs.Str.{IsAscii, IsUtf8, bytes_eq}
use Rattle.std.specs.Str.Parse.{AllDigits, digits_value}
use Rattle.std.proofs.lemmas.Slice.Eq.{bytes_eq-Decides}
use Rattle.std.proofs.lemmas.List.Splits.{length-slice_split, join_with_byte-slice_split}
use Rattle.std.proofs.lemmas.Str.Parse.{IsNumeralModel, numerals_by_value, tells_digits}
use Rattle.std.proofs.lemmas.Fmt.{digits_value-decimal}
use Rattle.std.proofs.lemmas.Str.{IsUtf8-from_ascii}
use Rattle.sdd_script_text.specs.Call.{IsWordOf, joined, words}
use Rattle.sdd_script_text.proofs.Lines.{IsWord, AreJoined, number_word, written_word, one_joined, more_joined}
use Rattle.sdd_script.specs.ScheduleReading.{steps_at, called}

-- ---- numbers

own : IsNumeralModel (AllDigits 10) (digits_value 10)
own = numerals_by_value _ tells_digits

-- no two numbers have the same digits
own_digits : (a b : ℕ) → a < 2 ^ 64 → b < 2 ^ 64 → decimal a ≡ decimal b → a ≡ b
own_digits a b h k e = sym (digits_value-decimal own a h) ∙ ap (digits_value 10) e ∙ digits_value-decimal own b k

-- a word that is no number of 64 bits, or one that isn't below the limit, is none that is
pub no_number : (limit : ℕ) (word : List ℕ) → limit ≤ 2 ^ 32 → ¬ ((n : ℕ) × IsWordOf n word) → ¬ ((n : ℕ) × IsBelow limit n word)
no_number limit word small none w = none (w.0, (omega (arith, w.1.0), w.1.1))

pub too_great : (limit n : ℕ) (word : List ℕ) → limit ≤ 2 ^ 32 → IsWordOf n word → limit ≤ n → ¬ ((n : ℕ) × IsBelow limit n word)
too_great limit n word small h great w =
    let same : n ≡ w.0 = own_digits n w.0 h.0 (omega (arith, w.1.0)) (h.1 ∙ sym w.1.1) in
    absurd (omega (arith, w.1.0))

pub ruleset one_number = (no_number, too_great)

-- ---- the words of a step

-- the numbers behind that of the place
abbrev others_of : Step → List ℕ
others_of (Retire place item) = item ∷ []
others_of step = []

place_first : (step : Step) → numbers_of step ≡ place_named step ∷ others_of step
place_first (Retire place item) = refl
place_first step = refl

verb_word : (step : Step) → IsWord 8 (verb_of step)
verb_word (Retire place item) = written_word 8 _ refl refl
verb_word step = written_word 8 _ refl refl

one_number_line : (verb : List ℕ) (n : ℕ) → IsWord 8 verb → n < 2 ^ 64 → AreJoined 29 (verb ∷ decimal n ∷ [])
one_number_line verb n h k = more_joined 8 20 verb (decimal n) [] h (one_joined 20 (decimal n) (number_word n k))

two_number_line : (verb : List ℕ) (n m : ℕ) → IsWord 8 verb → n < 2 ^ 64 → m < 2 ^ 64 → AreJoined 50 (verb ∷ decimal n ∷ decimal m ∷ [])
two_number_line verb n m h k l = more_joined 8 41 verb (decimal n) (decimal m ∷ []) h
    (more_joined 20 20 (decimal n) (decimal m) [] (number_word n k) (one_joined 20 (decimal m) (number_word m l)))

-- a step's line is ASCII and short, and has the step's words
step_line : (step : Step) → HasNumbers step → AreJoined 50 (words_of step)
step_line (Retire place item) h = two_number_line _ place item (verb_word (Retire place item)) (omega (arith, h.0)) (omega (arith, h.1))
step_line step h =
    let line = one_number_line _ (place_named step) (verb_word step) (omega (arith, h.0)) in
    record { apart = line.apart; ascii = line.ascii; short = omega (arith, line.short) }

pub short_from_step : (line : List ℕ) (o : Option Step) → MatchOption o (¬ IsStepText line) (λ step. IsTextOf step line) → OnSome o (length line ≤ 200)
short_from_step line None h = tt
short_from_step line (Some step) h = subst (λ l. length l ≤ 200) h.1 (omega (arith, (step_line step h.0).short))

pub utf8_from_step : (line : List ℕ) → IsStepText line → IsUtf8 line
utf8_from_step line w = IsUtf8-from_ascii line (subst IsAscii w.1.1 (step_line w.0 w.1.0).ascii)

-- the words of a text that is a step's are the step's
text_words : (step : Step) (text : List ℕ) → IsTextOf step text → words text ≡ verb_of step ∷ decimal (place_named step) ∷ map decimal (others_of step)
text_words step text h = ap words (sym h.1) ∙ (step_line step h.0).apart ∙ ap (λ ns. verb_of step ∷ map decimal ns) (place_first step)

-- ---- the step that words are

no_others : (ns : List ℕ) → map decimal ns ≡ [] → ns ≡ []
no_others [] e = refl
no_others (n ∷ ns) e = cc

-- one that names a place alone is the one of its verb and its place
step_said : (step : Step) → others_of step ≡ [] → called (verb_of step) (steps_at (place_named step)) ≡ Some step
step_said (Retire place item) e = cc
step_said step e = refl

-- and one that names more is a retirement
retire_said : (step : Step) (n : ℕ) (ns : List ℕ) → others_of step ≡ n ∷ ns → step ≡ Retire (place_named step) n
retire_said (Retire place item) n ns e = cc
retire_said step n ns e = cc

-- no two steps have the same text
same_step : (a b : Step) (xs ys : List ℕ) → others_of a ≡ xs → others_of b ≡ ys → verb_of a ≡ verb_of b → place_named a ≡ place_named b →
    map decimal xs ≡ map decimal ys → item_named a < 2 ^ 64 → item_named b < 2 ^ 64 → a ≡ b
same_step a b [] [] d e v p m h k = cc (step_said a d, step_said b e)
same_step a b [] (y ∷ ys) d e v p m h k = cc
same_step a b (x ∷ xs) [] d e v p m h k = cc
same_step a b (x ∷ xs) (y ∷ ys) d e v p m h k =
    let first : a ≡ Retire (place_named a) x = retire_said a x xs d in
    let other : b ≡ Retire (place_named b) y = retire_said b y ys e in
    let item : item_named a ≡ x = ap item_named first in
    let also : item_named b ≡ y = ap item_named other in
    let same : x ≡ y = own_digits x y (omega arith) (omega arith) (ap (λ ws. get_or ws 0 []) m) in
    cc

pub own_texts : (a b : Step) → HasNumbers a → HasNumbers b → line_of a ≡ line_of b → a ≡ b
own_texts a b h k e =
    let same = sym (text_words a (line_of b) (h, e)) ∙ text_words b (line_of b) (k, refl) in
    let place = own_digits (place_named a) (place_named b) (omega (arith, h.0)) (omega (arith, k.0)) (ap (λ ws. get_or ws 1 []) same) in
    same_step a b (others_of a) (others_of b) refl refl (ap (λ ws. get_or ws 0 []) same) place (ap (drop 2) same) (omega (arith, h.1)) (omega (arith, k.1))

-- a step that names this place alone
abbrev IsAt : ℕ → Step → Type 0
IsAt place step = (numbers_of step ≡ place ∷ []) × (place_named step ≡ place) × (item_named step ≡ 0)

all_at : (place : ℕ) → AllByRecursion (IsAt place) (steps_at place)
all_at place = search rules

called_first : (place : ℕ) (verb : List ℕ) (s step : Step) (rest : Option Step) (same : Bool) → (same ≡ true → verb ≡ verb_of s) → IsAt place s →
    (rest ≡ Some step → (verb ≡ verb_of step) × IsAt place step) → (if same then Some s else rest) ≡ Some step → (verb ≡ verb_of step) × IsAt place step
called_first place verb s step rest true is at others e =
    let first : s ≡ step = cc in (is refl ∙ ap verb_of first, subst (IsAt place) first at)
called_first place verb s step rest false is at others e = others e

called_said : (place : ℕ) (verb : List ℕ) (steps : List Step) (step : Step) → AllByRecursion (IsAt place) steps → called verb steps ≡ Some step →
    (verb ≡ verb_of step) × IsAt place step
called_said place verb [] step h e = cc
called_said place verb (s ∷ steps) step h e =
    called_first place verb s step (called verb steps) (bytes_eq verb (verb_of s)) (bytes_eq-Decides verb (verb_of s)).0 h.0
    (called_said place verb steps step h.1) e

-- ---- a line, word by word

-- one word is no step
pub one_word : (text : List ℕ) → words text ≡ text ∷ [] → IsStepText text → ⊥
one_word text e w = cc (text_words w.0 text w.1)

-- nor is a line whose second word is no place
pub no_place : (text verb rest word : List ℕ) (ws : List (List ℕ)) → words text ≡ verb ∷ words rest → words rest ≡ word ∷ ws →
    ¬ ((n : ℕ) × IsBelow 1024 n word) → IsStepText text → ⊥
no_place text verb rest word ws e f none w =
    none (place_named w.0, (w.1.0.0, ap (λ vs. get_or vs 1 []) (sym (text_words w.0 text w.1) ∙ e ∙ ap (λ vs. verb ∷ vs) f)))

-- two words are the step of that verb at that place, or none
pub two_words : (text verb rest : List ℕ) (place : ℕ) (o : Option Step) → words text ≡ verb ∷ words rest → words rest ≡ rest ∷ [] →
    IsBelow 1024 place rest → o ≡ called verb (steps_at place) → MatchOption o (¬ IsStepText text) (λ step. IsTextOf step text)
two_words text verb rest place None e f h o = λ w.
    let same = sym (text_words w.0 text w.1) ∙ e ∙ ap (λ vs. verb ∷ vs) f in
    let alone : others_of w.0 ≡ [] = no_others (others_of w.0) (ap (drop 2) same) in
    let at : place_named w.0 ≡ place =
    own_digits (place_named w.0) place (omega (arith, w.1.0.0)) (omega (arith, h.0)) (ap (λ vs. get_or vs 1 []) same ∙ sym h.1) in
    let is : verb_of w.0 ≡ verb = ap (λ vs. get_or vs 0 []) same in
    absurd (cc (step_said w.0 alone))
two_words text verb rest place (Some step) e f h o =
    let said = called_said place verb (steps_at place) step (all_at place) (sym o) in
    let spoken : words_of step ≡ words text = grind arith in
    ((omega (arith, said.1.1, h.0), omega (arith, said.1.2)), ap joined spoken ∙ join_with_byte-slice_split 32 text)

-- with more words a line is a retirement, or none
retire_verb : (step : Step) → 0 < length (map decimal (others_of step)) → verb_of step ≡ codes "retire"
retire_verb (Retire place item) h = refl
retire_verb step h = absurd (omega arith)

item_word : (step : Step) → 0 < length (map decimal (others_of step)) → map decimal (others_of step) ≡ decimal (item_named step) ∷ []
item_word (Retire place item) h = refl
item_word step h = absurd (omega arith)

-- a text has a word
some_word : (text : List ℕ) → 0 < length (words text)
some_word text = omega (arith, length-slice_split (λ byte. byte == 32) text)

pub other_verb : (text verb rest word item : List ℕ) → words text ≡ verb ∷ words rest → words rest ≡ word ∷ words item → ¬ (verb ≡ codes "retire") →
    IsStepText text → ⊥
other_verb text verb rest word item e f other w =
    let same = sym (text_words w.0 text w.1) ∙ e ∙ ap (λ vs. verb ∷ vs) f in
    let more : map decimal (others_of w.0) ≡ words item = ap (drop 2) same in
    other (sym (ap (λ vs. get_or vs 0 []) same) ∙ retire_verb w.0 (subst (λ vs. 0 < length vs) (sym more) (some_word item)))

pub no_item : (text verb rest word item : List ℕ) → words text ≡ verb ∷ words rest → words rest ≡ word ∷ words item →
    ¬ ((n : ℕ) × IsBelow 16777216 n item) → IsStepText text → ⊥
no_item text verb rest word item e f none w =
    let same = sym (text_words w.0 text w.1) ∙ e ∙ ap (λ vs. verb ∷ vs) f in
    let more : map decimal (others_of w.0) ≡ words item = ap (drop 2) same in
    let one = item_word w.0 (subst (λ vs. 0 < length vs) (sym more) (some_word item)) in
    none (item_named w.0, (w.1.0.1, ap joined (sym one ∙ more) ∙ join_with_byte-slice_split 32 item))

pub three_words : (text verb rest word item : List ℕ) (p i : ℕ) → words text ≡ verb ∷ words rest → words rest ≡ word ∷ words item → verb ≡ codes "retire" →
    IsBelow 1024 p word → IsBelow 16777216 i item → IsTextOf (Retire p i) text
three_words text verb rest word item p i e f v h k =
    let last : words item ≡ decimal i ∷ [] = ap words (sym k.1) ∙ (one_joined 20 (decimal i) (number_word i (omega (arith, k.0)))).apart in
    let all : words text ≡ words_of (Retire p i) = cc in
    ((h.0, k.0), ap joined (sym all) ∙ join_with_byte-slice_split 32 text)

-- what is no step is answered so
pub none_then : (text : List ℕ) (o : Option Step) → o ≡ None → (IsStepText text → ⊥) → MatchOption o (¬ IsStepText text) (λ step. IsTextOf step text)
none_then text None e h = h
none_then text (Some step) e h = cc

pub ruleset one_step = (one_word, no_place, two_words, other_verb, no_item, three_words)

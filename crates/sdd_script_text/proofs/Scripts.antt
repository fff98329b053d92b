-- The lines of a text, one by one, and what they are
use Rattle.sdd_script_text.proofs.Words.{◌≡◌, ℕ, ◌+◌, ◌<◌, ◌≢◌, suc, zero, List, [], ◌∷◌, ◌++◌, length, length-append, append-nil, get_or, add-one, take, drop, map, refl, sym, ap, ◌≤◌, ◌∙◌, arith, ne_eqb, onto_first, AllByRecursion, cond-false, Call, line_of, HasNumbers, lines, most_calls, IsTextOfSome, AreLines, IsFirstOther, AreCalls}
use Rattle.sdd_script_text.proofs.Lines.{call_line}

-- a text is its first line, and the lines behind its line feed
pub lines_at : (text : List ℕ) (k : ℕ) → k < length text → get_or text k 0 ≡ 10 → ((i : ℕ) → i < k → get_or text i 0 ≢ 10) →
    lines text ≡ take k text ∷ lines (drop (k + 1) text)
lines_at [] k l e h = absurd (omega arith)
lines_at (b ∷ bs) zero l e h = rw e refl
lines_at (b ∷ bs) (suc k) l e h = rw add-one (cond-false _ _ _ (ne_eqb b 10 (h 0 (omega arith)))
    ∙ ap (onto_first b) (rw add-one at (lines_at bs k (omega arith) e (λ i j. h (suc i) (omega arith)))))

-- a text without a line feed is one line
pub lines_none : (text : List ℕ) → 0 < length text → ((i : ℕ) → i < length text → get_or text i 0 ≢ 10) → lines text ≡ text ∷ lines []
lines_none [] l h = absurd (omega arith)
lines_none (b ∷ []) l h = cond-false _ _ _ (ne_eqb b 10 (h 0 l))
lines_none (b ∷ c ∷ bs) l h = cond-false _ _ _ (ne_eqb b 10 (h 0 l))
    ∙ ap (onto_first b) (lines_none (c ∷ bs) (omega arith) (λ i j. h (suc i) (omega arith)))

-- no two have the same text
abbrev pub HaveOwnTexts : {A : Type 0} → (A → List ℕ) → (A → Type 0) → Type 0
HaveOwnTexts {A} text_of Fits = (a b : A) → Fits a → Fits b → text_of a ≡ text_of b → a ≡ b

-- then no two lists of them have the same lines
same_lines : {A : Type 0} (text_of : A → List ℕ) (Fits : A → Type 0) → HaveOwnTexts text_of Fits → (a b : List A) → AllByRecursion Fits a
    → AllByRecursion Fits b →
    map text_of a ≡ map text_of b → a ≡ b
same_lines text_of Fits own [] [] h k e = refl
same_lines text_of Fits own (c ∷ a) (d ∷ b) h k e =
    let first : c ≡ d = own c d h.0 k.0 (ap (λ ls. get_or ls 0 []) e) in
    let others : a ≡ b = same_lines text_of Fits own a b h.1 k.1 (ap (drop 1) e) in cc
same_lines text_of Fits own a b h k e = cc

-- where all lines are the texts of some, so is the line behind some of them
next_line : {A : Type 0} (text_of : A → List ℕ) (Fits : A → Type 0) (before all : List A) (line : List ℕ) (after : List (List ℕ)) → AllByRecursion Fits all →
    map text_of all ≡ map text_of before ++ line ∷ after → (length before < length all) × IsTextOfSome text_of Fits line
next_line text_of Fits before [] line after h e = absurd (omega (arith, ap length e, length-append (map text_of before) (line ∷ after)))
next_line text_of Fits [] (c ∷ all) line after h e = (omega arith, (c, (h.0, ap (λ ls. get_or ls 0 []) e)))
next_line text_of Fits (b ∷ before) (c ∷ all) line after h e =
    let next = next_line text_of Fits before all line after h.1 (ap (drop 1) e) in (omega (arith, next.0), next.1)

-- a line behind those read is the first that is the text of none, and then the text has no such lines
pub first_other : {A : Type 0} (text_of : A → List ℕ) (Fits : A → Type 0) (text line : List ℕ) (before : List A) (after : List (List ℕ)) (n : ℕ) →
    map text_of before ++ line ∷ after ≡ lines text → AllByRecursion Fits before → length before ≤ most_calls → n ≡ length before + 1 →
    ¬ ((length before < most_calls) × IsTextOfSome text_of Fits line) → IsFirstOther text_of Fits text n
first_other text_of Fits text line before after n e numbers few counted fault =
    record { before = before; line = line; after = after; texts = sym e; numbers = numbers; few = few; counted = counted; fault = fault }

pub no_other : {A : Type 0} (text_of : A → List ℕ) (Fits : A → Type 0) (text line : List ℕ) (before all : List A) (after : List (List ℕ)) →
    map text_of before ++ line ∷ after ≡ lines text → ¬ ((length before < most_calls) × IsTextOfSome text_of Fits line) → AreLines text_of Fits text all → ⊥
no_other text_of Fits text line before all after e fault h =
    let next = next_line text_of Fits before all line after h.numbers (sym h.texts ∙ sym e) in fault (omega (arith, next.0, h.few), next.1)

-- where no byte is left, no others have this text
pub only_lines : {A : Type 0} (text_of : A → List ℕ) (Fits : A → Type 0) → HaveOwnTexts text_of Fits → (text rest : List ℕ) (a b : List A) →
    map text_of a ++ lines rest ≡ lines text → length rest ≡ 0 → AllByRecursion Fits a → AreLines text_of Fits text b → a ≡ b
only_lines text_of Fits own text [] a b e z numbers h = same_lines text_of Fits own a b numbers h.numbers (sym (append-nil (map text_of a)) ∙ e ∙ h.texts)
only_lines text_of Fits own text (c ∷ rest) a b e z numbers h = absurd (omega arith)

-- no two calls have the same text
own_texts : HaveOwnTexts line_of HasNumbers
own_texts a b h k e = cc ((call_line a h).read, (call_line b k).read)

pub only_calls : (text rest : List ℕ) (a b : List Call) → map line_of a ++ lines rest ≡ lines text → length rest ≡ 0 → AllByRecursion HasNumbers a →
    AreCalls text b → a ≡ b
only_calls = only_lines line_of HasNumbers own_texts

pub ruleset one_script = (first_other, no_other, only_calls)

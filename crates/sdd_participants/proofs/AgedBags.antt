-- What a rotation takes out and leaves
use Rattle.std.proofs.Common.{◌≡◌, ◌≢◌, ℕ, ◌+◌, ◌<◌, length, arith, List, [], ◌∷◌, ◌++◌, map, refl, ap}
use Rattle.std.proofs.lemmas.Grind.{common_steps}
use Rattle.std.proofs.lemmas.List.{append_assoc, map-append}
use Rattle.sdd_participants.specs.Waiting.{Waiting, anew, aged, due, left, having_seen}
use Rattle.sdd_participants.specs.declared.waiting.LimboEntry.{LimboEntry}
use Rattle.sdd_participants.specs.Bags.{waiting_of}

-- the next bag leaves, and each other one moves on
pub left-aged : (next prev current : List LimboEntry) → left (aged (waiting_of next prev current)) ≡ waiting_of prev current []
left-aged (x ∷ next) prev current = left-aged next prev current
left-aged [] (x ∷ prev) current = ap (λ rest. having_seen 2 x ∷ rest) (left-aged [] prev current)
left-aged [] [] (x ∷ current) = ap (λ rest. having_seen 1 x ∷ rest) (left-aged [] [] current)
left-aged [] [] [] = refl

-- the next bag is what is due
pub due-aged : (next prev current : List LimboEntry) → due (aged (waiting_of next prev current)) ≡ next
due-aged (x ∷ next) prev current = ap (λ rest. x ∷ rest) (due-aged next prev current)
due-aged [] (x ∷ prev) current = due-aged [] prev current
due-aged [] [] (x ∷ current) = due-aged [] [] current
due-aged [] [] [] = refl

-- nothing is lost
pub length-left-due : (next prev current : List LimboEntry) → length (waiting_of prev current []) + length next ≡ length (waiting_of next prev current)
length-left-due next prev current = grind (arith, common_steps)

-- nothing waits, where no bag has an item
pub none-waiting : (next prev current : List LimboEntry) (waiting : List Waiting) → waiting_of next prev current ≡ waiting → 0 < length prev + length current →
    waiting ≢ []
none-waiting next prev current waiting e some none =
    let count : length (waiting_of next prev current) ≡ length next + (length prev + length current) = grind (arith, common_steps) in
    let zero_long : length waiting ≡ 0 = ap length none in
    omega (arith, count, ap length e)

anew-all : (seen : ℕ) (bag : List LimboEntry) → map anew (map (having_seen seen) bag) ≡ map (having_seen 0) bag
anew-all seen [] = refl
anew-all seen (x ∷ bag) = ap (λ rest. having_seen 0 x ∷ rest) (anew-all seen bag)

-- what is put into the current bag, waits anew behind all the rest
pub adopted-waiting : (next prev current left_next left_prev left_current : List LimboEntry) →
    waiting_of next prev (((current ++ left_next) ++ left_prev) ++ left_current) ≡
    waiting_of next prev current ++ map anew (waiting_of left_next left_prev left_current)
adopted-waiting next prev current left_next left_prev left_current =
    simp (map-append, anew-all 2 left_next, anew-all 1 left_prev, anew-all 0 left_current, append_assoc)

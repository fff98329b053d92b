-- The greatest of some numbers
use Rattle.std.proofs.Common.{◌≡◌, ℕ, ◌+◌, ◌<◌, List, [], ◌∷◌, ◌++◌, length, map, take, max, get_or, refl, sym, ap, ◌∙◌, arith}
use Rattle.std.proofs.lemmas.List.{take_more, map-append}
use Rattle.sdd_machine.specs.Sizes.{greatest}

-- one more
pub greatest-append : (xs : List ℕ) (x : ℕ) → greatest (xs ++ x ∷ []) ≡ max x (greatest xs)
greatest-append [] x = refl
greatest-append (y ∷ ys) x = let rest = greatest-append ys x in omega arith

-- the loop's step
pub greatest-more : {A : Type 0} (f : A → ℕ) (xs : List A) (i : ℕ) (d x : A) → i < length xs → x ≡ get_or xs i d →
    max (f x) (greatest (map f (take i xs))) ≡ greatest (map f (take (i + 1) xs))
greatest-more {A} f xs i d x l e =
    sym (ap (λ (ys : List A). greatest (map f ys)) (take_more xs i d l)
    ∙ (ap greatest (map-append f (take i xs) (get_or xs i d ∷ [])) ∙ (greatest-append (map f (take i xs)) (f (get_or xs i d))
    ∙ ap (λ (y : A). max (f y) (greatest (map f (take i xs)))) (sym e))))

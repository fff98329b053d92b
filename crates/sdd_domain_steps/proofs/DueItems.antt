-- What is due of what waits, and what isn't, where one thing more waits
use Rattle.std.proofs.Common.{◌≡◌, ◌+◌, ◌≤◌, List, [], ◌∷◌, ◌++◌, map, filter, length, refl, ap, ◌∙◌, arith}
use mathlib.Core.Bool.{Bool, true, false, cond}

module _ {A : Type 0} where
  cond_snoc : (b : Bool) (x : A) (ys zs : List A) → cond b (x ∷ (ys ++ zs)) (ys ++ zs) ≡ cond b (x ∷ ys) ys ++ zs
  cond_snoc true x ys zs = refl
  cond_snoc false x ys zs = refl

  cond_shorter : (b : Bool) (x : A) (xs : List A) → length (cond b (x ∷ xs) xs) ≤ length xs + 1
  cond_shorter true x xs = omega arith
  cond_shorter false x xs = omega arith

  pub map_snoc : {B : Type 0} (f : A → B) (y : A) (xs : List A) → map f (xs ++ y ∷ []) ≡ map f xs ++ f y ∷ []
  map_snoc f y [] = refl
  map_snoc f y (x ∷ xs) = ap (λ (l : List _). f x ∷ l) (map_snoc f y xs)

  module _ (p : A → Bool) where
    pub filter_snoc : (y : A) → p y ≡ true → (xs : List A) → filter p (xs ++ y ∷ []) ≡ filter p xs ++ y ∷ []
    filter_snoc y is [] = ap (λ (b : Bool). cond b (y ∷ []) []) is
    filter_snoc y is (x ∷ xs) = ap (λ (l : List A). cond (p x) (x ∷ l) l) (filter_snoc y is xs) ∙ cond_snoc (p x) x (filter p xs) (y ∷ [])

    pub filter_past : (y : A) → p y ≡ false → (xs : List A) → filter p (xs ++ y ∷ []) ≡ filter p xs
    filter_past y is [] = ap (λ (b : Bool). cond b (y ∷ []) []) is
    filter_past y is (x ∷ xs) = ap (λ (l : List A). cond (p x) (x ∷ l) l) (filter_past y is xs)

    pub fewer : (xs : List A) → length (filter p xs) ≤ length xs
    fewer [] = omega arith
    fewer (x ∷ xs) = let a = cond_shorter (p x) x (filter p xs) in let b = fewer xs in omega arith

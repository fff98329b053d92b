-- Sums over what participants know and over words, after one step
use Rattle.std.proofs.Common.{◌≡◌, ◌≢◌, ◌⊎◌, ℕ, zero, suc, ◌+◌, ◌<◌, ◌≤◌, eqb, List, [], ◌∷◌, ◌++◌, map, length, get_or, set, sym, refl, ap, ◌∙◌, subst, ⊎_elim, inl, inr, eq-eqb, ne_eqb, arith, get_or-set_other, get_or-set_same}
use Rattle.std.specs.List.{filter}
use mathlib.Core.Bool.{Bool, true, false, cond}
use mathlib.Core.Option.{some, some-injective, some-ne-none}
use mathlib.Core.Logic.{dite}
use native.Mathlib.Decide.{ℕ_discrete, dec_lt}
use lib.ListN.{get_elem?}
use prog.Atomic.{either}
use Rattle.atomic_table.proofs.Lists.{at_set}
use Rattle.sdd_domain_invariant.specs.Sums.{total, span, is, times}
use Rattle.sdd_domain_invariant.specs.Slots.SlotSteps.{without}
use Rattle.std.specs.Prelude.{not}

module _ {X : Type 0} (f : X → ℕ) where
  pub total_set : (vs : List X) (id : ℕ) (v w : X) → get_elem? vs id ≡ some v → total f (set vs id w) + f v ≡ total f vs + f w
  total_set [] id v w e = absurd (some-ne-none v (sym e))
  total_set (x ∷ xs) zero v w e = let s = ap f (some-injective _ _ e) in omega arith
  total_set (x ∷ xs) (suc id) v w e = let s = total_set xs id v w e in omega arith

  pub total_snoc : (vs : List X) (w : X) → total f (vs ++ w ∷ []) ≡ total f vs + f w
  total_snoc [] w = omega arith
  total_snoc (x ∷ xs) w = let s = total_snoc xs w in omega arith

  pub total_append : (vs us : List X) → total f (vs ++ us) ≡ total f vs + total f us
  total_append [] us = omega arith
  total_append (x ∷ xs) us = let s = total_append xs us in omega arith

  pub total_has : (vs : List X) (id : ℕ) (v : X) → get_elem? vs id ≡ some v → f v ≤ total f vs
  total_has [] id v e = absurd (some-ne-none v (sym e))
  total_has (x ∷ xs) zero v e = let s = ap f (some-injective _ _ e) in omega arith
  total_has (x ∷ xs) (suc id) v e = let s = total_has xs id v e in omega arith

  pub total_two : (vs : List X) (j k : ℕ) (v w : X) → j ≢ k → get_elem? vs j ≡ some v → get_elem? vs k ≡ some w → f v + f w ≤ total f vs
  total_two [] j k v w apart e e' = absurd (some-ne-none v (sym e))
  total_two (x ∷ xs) zero zero v w apart e e' = absurd (apart refl)
  total_two (x ∷ xs) zero (suc k) v w apart e e' = let s = ap f (some-injective _ _ e) in let r = total_has xs k w e' in omega arith
  total_two (x ∷ xs) (suc j) zero v w apart e e' = let s = ap f (some-injective _ _ e') in let r = total_has xs j v e in omega arith
  total_two (x ∷ xs) (suc j) (suc k) v w apart e e' = let s = total_two xs j k v w (λ z. apart (ap suc z)) e e' in omega arith

  pub total_zero : (vs : List X) → ((j : ℕ) (v : X) → get_elem? vs j ≡ some v → f v ≡ 0) → total f vs ≡ 0
  total_zero [] none = refl
  total_zero (x ∷ xs) none = let a = none 0 x refl in let b = total_zero xs (λ j. none (suc j)) in omega arith

  -- where it is 0 for all others, the sum is that of one
  pub total_only : (vs : List X) (id : ℕ) (v : X) → get_elem? vs id ≡ some v → ((j : ℕ) (u : X) → j ≢ id → get_elem? vs j ≡ some u → f u ≡ 0)
      → total f vs ≡ f v
  total_only [] id v e none = absurd (some-ne-none v (sym e))
  total_only (x ∷ xs) zero v e none = let s = ap f (some-injective _ _ e) in let z = total_zero xs (λ j u a. none (suc j) u (λ d. omega arith) a) in omega arith
  total_only (x ∷ xs) (suc id) v e none = let a = none 0 x (λ d. omega arith) refl in
      let s = total_only xs id v e (λ j u ne b. none (suc j) u (λ d. ne (omega arith)) b) in omega arith

  pub total_map : (g : X → X) → ((x : X) → f (g x) ≡ f x) → (xs : List X) → total f (map g xs) ≡ total f xs
  total_map g same [] = refl
  total_map g same (x ∷ xs) = let a = same x in let b = total_map g same xs in omega arith

-- the elements that a test lets through
module _ {X : Type 0} where
  at_most_one_more : (b : Bool) (x y : X) (ys : List X) (k : ℕ) → get_elem? (cond b (x ∷ ys) ys) k ≡ some y → (x ≡ y) ⊎ ((q : ℕ) × (get_elem? ys q ≡ some y))
  at_most_one_more true x y ys zero e = inl (some-injective _ _ e)
  at_most_one_more true x y ys (suc k) e = inr (k, e)
  at_most_one_more false x y ys k e = inr (k, e)

  pub at_filter : (p : X → Bool) (xs : List X) (k : ℕ) (y : X) → get_elem? (filter p xs) k ≡ some y → (q : ℕ) × (get_elem? xs q ≡ some y)
  at_filter p [] k y e = (k, e)
  at_filter p (x ∷ xs) k y e = ⊎_elim (λ (t : x ≡ y). (0, ap some t))
      (λ (t : (q : ℕ) × (get_elem? (filter p xs) q ≡ some y)). let r = at_filter p xs t.0 y t.1 in (suc r.0, r.1))
      (at_most_one_more (p x) x y (filter p xs) k e)

  module _ (f : X → ℕ) where
    adds : (b : Bool) (x : X) (ys : List X) → (b ≡ false → f x ≡ 0) → total f (cond b (x ∷ ys) ys) ≡ f x + total f ys
    adds true x ys none = refl
    adds false x ys none = let z = none refl in omega arith

    drops : (b : Bool) (x : X) (ys : List X) → (b ≡ true → f x ≡ 0) → total f (cond b (x ∷ ys) ys) ≡ total f ys
    drops true x ys none = let z = none refl in omega arith
    drops false x ys none = refl

    pub total_kept : (p : X → Bool) → ((x : X) → p x ≡ false → f x ≡ 0) → (xs : List X) → total f (filter p xs) ≡ total f xs
    total_kept p none [] = refl
    total_kept p none (x ∷ xs) = let a = adds (p x) x (filter p xs) (none x) in let b = total_kept p none xs in omega arith

    pub total_gone : (p : X → Bool) → ((x : X) → p x ≡ true → f x ≡ 0) → (xs : List X) → total f (filter p xs) ≡ 0
    total_gone p none [] = refl
    total_gone p none (x ∷ xs) = let a = drops (p x) x (filter p xs) (none x) in let b = total_gone p none xs in omega arith

    -- where a list has an element, it adds up to more than nothing; and the other way round
    pub total_some : (xs : List X) → 0 < total f xs → (k : ℕ) × (x : X) × (get_elem? xs k ≡ some x) × (0 < f x)
    total_some [] more = absurd (omega arith)
    total_some (x ∷ xs) more = dite (ℕ_discrete (f x) 0)
        (λ z. let r = total_some xs (omega arith) in (suc r.0, r.1, r.2, r.3))
        (λ ne. (0, x, refl, let h : 0 < f x = omega arith in h))

pub is_same : (i j : ℕ) → j ≡ i → is i j ≡ 1
is_same i j e = ap (λ (t : _). either t 1 0) (eq-eqb j i e)

pub is_other : (i j : ℕ) → j ≢ i → is i j ≡ 0
is_other i j n = ap (λ (t : _). either t 1 0) (ne_eqb j i n)

-- a number of a list without i is another one, and each other one stays in it
pub without_same : (i : ℕ) (os : List ℕ) → times i (without i os) ≡ 0
without_same i os = total_gone (is i) (λ other. not (eqb other i)) (λ x t. is_other i x (λ e. grind (arith, eq-eqb x i e))) os

pub without_other : (i j : ℕ) → j ≢ i → (os : List ℕ) → times j (without i os) ≡ times j os
without_other i j ne os = total_kept (is j) (λ other. not (eqb other i)) (λ x t. is_other j x (λ e. grind (arith, ne_eqb x i))) os

module _ (f : ℕ → ℕ) (ws : List ℕ) (b : ℕ) where
  pub span_out : (n k y : ℕ) → (k < b) ⊎ (b + n ≤ k) → span f (set ws k y) b n ≡ span f ws b n
  span_out zero k y out = refl
  span_out (suc n) k y out =
      let s = span_out n k y (⊎_elim (λ (t : k < b). inl t) (λ (t : b + suc n ≤ k). inr (omega arith)) out) in
      let h = ap f (get_or-set_other ws k (b + n) y 0 (λ e. ⊎_elim (λ (t : k < b). omega arith) (λ (t : b + suc n ≤ k). omega arith) out)) in omega arith

  pub span_set : (n d y : ℕ) → d < n → b + n ≤ length ws → span f (set ws (b + d) y) b n + f (get_or ws (b + d) 0) ≡ span f ws b n + f y
  span_set zero d y inside long = absurd (omega arith)
  span_set (suc n) d y inside long = dite (ℕ_discrete d n)
      (λ e. let s = span_out n (b + d) y (inr (omega arith)) in
      let h = ap f (ap (λ (a : ℕ). get_or (set ws (b + d) y) (b + a) 0) (sym e) ∙ get_or-set_same ws (b + d) y 0 (omega arith)) in
      let g = ap (λ (a : ℕ). f (get_or ws (b + a) 0)) e in omega arith)
      (λ ne. let s = span_set n d y (omega arith) (omega arith) in
      let h = ap f (get_or-set_other ws (b + d) (b + n) y 0 (λ e. ne (omega arith))) in omega arith)

  pub span_has : (n d : ℕ) → d < n → f (get_or ws (b + d) 0) ≤ span f ws b n
  span_has zero d inside = absurd (omega arith)
  span_has (suc n) d inside = dite (ℕ_discrete d n) (λ e. let g = ap (λ (a : ℕ). f (get_or ws (b + a) 0)) e in omega arith)
      (λ ne. let s = span_has n d (omega arith) in omega arith)

  pub span_zero : (n : ℕ) → ((d : ℕ) → d < n → f (get_or ws (b + d) 0) ≡ 0) → span f ws b n ≡ 0
  span_zero zero none = refl
  span_zero (suc n) none = let a = none n (omega arith) in let r = span_zero n (λ d l. none d (omega arith)) in omega arith

  -- where they add up to more than nothing, one does
  pub span_some : (n : ℕ) → 0 < span f ws b n → (d : ℕ) × (d < n) × (0 < f (get_or ws (b + d) 0))
  span_some zero more = absurd (omega arith)
  span_some (suc n) more = dite (dec_lt 0 (f (get_or ws (b + n) 0)))
      (λ here. let t : (d : ℕ) × (d < suc n) × (0 < f (get_or ws (b + d) 0)) = (n, (omega arith), here) in t)
      (λ none. let r = span_some n (omega arith) in (r.0, (let l = r.1 in omega arith), r.2))

-- each of the words counts as before
pub span_same : (f : ℕ → ℕ) (ws ws' : List ℕ) (b n : ℕ) → ((d : ℕ) → d < n → f (get_or ws' (b + d) 0) ≡ f (get_or ws (b + d) 0))
    → span f ws' b n ≡ span f ws b n
span_same f ws ws' b zero same = refl
span_same f ws ws' b (suc n) same = let a = same n (omega arith) in let r = span_same f ws ws' b n (λ d l. same d (omega arith)) in omega arith

-- a fact of any two, and of one with itself
pub both_set : {X : Type 0} (R : X → X → Type 0) (vs : List X) (id : ℕ) (w : X)
    → ((j k : ℕ) (a b : X) → get_elem? vs j ≡ some a → get_elem? vs k ≡ some b → R a b) → R w w
    → ((j : ℕ) (u : X) → j ≢ id → get_elem? vs j ≡ some u → R w u × R u w)
    → (j k : ℕ) (a b : X) → get_elem? (set vs id w) j ≡ some a → get_elem? (set vs id w) k ≡ some b → R a b
both_set {X} R vs id w old own new j k a b ea eb =
    ⊎_elim
    (λ (t : (j ≡ id) × (w ≡ a)). ⊎_elim
    (λ (s : (k ≡ id) × (w ≡ b)). subst (λ (x : X). R x b) t.1 (subst (λ (x : X). R w x) s.1 own))
    (λ (s : (k ≢ id) × (get_elem? vs k ≡ some b)). subst (λ (x : X). R x b) t.1 ((new k b s.0 s.1).0))
    (at_set vs id k w b eb))
    (λ (t : (j ≢ id) × (get_elem? vs j ≡ some a)). ⊎_elim
    (λ (s : (k ≡ id) × (w ≡ b)). subst (λ (x : X). R a x) s.1 ((new j a t.0 t.1).1))
    (λ (s : (k ≢ id) × (get_elem? vs k ≡ some b)). old j k a b t.1 s.1)
    (at_set vs id k w b eb))
    (at_set vs id j w a ea)

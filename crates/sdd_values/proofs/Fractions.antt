-- Laws of fractions and values, one at a time
use Rattle.std.proofs.Common.{◌≡◌, ◌⊎◌, inl, inr, ℕ, zero, suc, ◌<◌, List, [], ◌∷◌, length, refl, sym, ap, ◌∙◌, subst, arith}
use Rattle.std.specs.Prelude.{Option, None, Some, replicate, slice_index_or, slice_set}
use lib.ListN.{length-set, length-replicate}
pub use Rattle.std.proofs.lemmas.List.{get_or-set_same as set-there, get_or-set_other as set-elsewhere}
pub use Rattle.std.proofs.lemmas.Bool.{cases_eq as same-place}
use Rattle.sdd_values.specs.Block.{fraction_at, IsUnlent, IsFreeFor, AllLent, lent, settled, unlent}
use Rattle.sdd_values.specs.LentValues.{AreFractions}

abbrev IsFilled : {X : Type 0} → Option X → Type 0
IsFilled None = ⊥
IsFilled (Some x) = Unit {0}

some-is-none : {X : Type 0} (x : X) → Some x ≡ None → ⊥
some-is-none {X} x e = subst (λ (o : Option X). IsFilled o) e tt

-- ---- one list
home-there : (row : List (Option ℕ)) (r : ℕ) → slice_index_or (slice_set row r None) r None ≡ None
home-there [] r = refl
home-there (s ∷ row) zero = refl
home-there (s ∷ row) (suc r) = home-there row r

-- values that are all empty
pub all-none : {X : Type 0} (xs : List (Option X)) (n : ℕ) → length xs ≡ n → ((k : ℕ) (d : Option X) → k < n → slice_index_or xs k d ≡ None)
    → xs ≡ replicate n None
all-none [] zero long none = refl
all-none [] (suc n) long none = absurd (omega (arith, long))
all-none (x ∷ xs) zero long none = absurd (omega (arith, long))
all-none {X} (x ∷ xs) (suc n) long none =
    let first : x ≡ None = none 0 x (omega arith) in let others = all-none xs n (omega (arith, long)) (λ k d near. none (suc k) d (omega (arith, near))) in
    λ i. first i ∷ others i

row-settled : (r k : ℕ) (ss : List (List (Option ℕ))) → slice_index_or (settled r ss) k [] ≡ slice_set (slice_index_or ss k []) r None
row-settled r k [] = refl
row-settled r zero (s ∷ ss) = refl
row-settled r (suc k) (s ∷ ss) = row-settled r k ss

-- ---- fractions
pub home-unlent : (n m at : ℕ) → IsUnlent (unlent n m) at
home-unlent n m at reader = by_row n at
  where
    row : ℕ → List (Option ℕ)
    row k = replicate k None

    none : (k r : ℕ) → slice_index_or (row k) r None ≡ None
    none zero r = refl
    none (suc k) zero = refl
    none (suc k) (suc r) = none k r

    by_row : (n at : ℕ) → slice_index_or (slice_index_or (unlent n m) at []) reader None ≡ None
    by_row zero at = refl
    by_row (suc n) zero = none m reader
    by_row (suc n) (suc at) = by_row n at

pub lent-there : (at r t : ℕ) (ss : List (List (Option ℕ))) → at < length ss → r < length (slice_index_or ss at []) → fraction_at (lent at r t ss) at r ≡ Some t
lent-there at r t ss inside near = ap (λ (row : List (Option ℕ)). slice_index_or row r None)
    (set-there ss at (slice_set (slice_index_or ss at []) r (Some t)) [] inside)
    ∙ set-there (slice_index_or ss at []) r (Some t) None near

pub lent-elsewhere : (at r t : ℕ) (ss : List (List (Option ℕ))) (k q : ℕ) → (k ≡ at → q ≡ r → ⊥) → fraction_at (lent at r t ss) k q ≡ fraction_at ss k q
lent-elsewhere at r t ss k q other = by_place (same-place k at)
  where
    row : List (Option ℕ)
    row = slice_index_or ss at []

    in_row : (ss : List (List (Option ℕ))) (at : ℕ) (row : List (Option ℕ)) → slice_index_or row q None ≡ slice_index_or (slice_index_or ss at []) q None
        → slice_index_or (slice_index_or (slice_set ss at row) at []) q None ≡ slice_index_or (slice_index_or ss at []) q None
    in_row [] at row same = refl
    in_row (s ∷ ss) zero row same = same
    in_row (s ∷ ss) (suc at) row same = in_row ss at row same

    by_place : (k ≡ at) ⊎ (k ≡ at → ⊥) → fraction_at (lent at r t ss) k q ≡ fraction_at ss k q
    by_place (inl e) = subst (λ (j : ℕ). fraction_at (lent at r t ss) j q ≡ fraction_at ss j q) (sym e)
        (in_row ss at (slice_set row r (Some t)) (set-elsewhere row r q (Some t) None (λ f. other e f)))
    by_place (inr n) = ap (λ (s : List (Option ℕ)). slice_index_or s q None) (set-elsewhere ss at k (slice_set row r (Some t)) [] n)

pub settled-there : (r : ℕ) (ss : List (List (Option ℕ))) (k : ℕ) → fraction_at (settled r ss) k r ≡ None
settled-there r ss k = ap (λ (s : List (Option ℕ)). slice_index_or s r None) (row-settled r k ss) ∙ home-there (slice_index_or ss k []) r

pub settled-elsewhere : (r : ℕ) (ss : List (List (Option ℕ))) (k q : ℕ) → (q ≡ r → ⊥) → fraction_at (settled r ss) k q ≡ fraction_at ss k q
settled-elsewhere r ss k q other = ap (λ (s : List (Option ℕ)). slice_index_or s q None) (row-settled r k ss)
    ∙ set-elsewhere (slice_index_or ss k []) r q None None other

-- what only one reader had is home once that reader's fractions are
pub home-after : (r : ℕ) (ss : List (List (Option ℕ))) (k : ℕ) → ((q : ℕ) → (q ≡ r → ⊥) → fraction_at ss k q ≡ None) → IsUnlent (settled r ss) k
home-after r ss k others q = by_reader (same-place q r)
  where
    by_reader : (q ≡ r) ⊎ (q ≡ r → ⊥) → fraction_at (settled r ss) k q ≡ None
    by_reader (inl e) = subst (λ (j : ℕ). fraction_at (settled r ss) k j ≡ None) (sym e) (settled-there r ss k)
    by_reader (inr n) = settled-elsewhere r ss k q n ∙ others q n

-- ---- what holds of all that is lent
abbrev told : Option ℕ → ℕ
told None = 0
told (Some t) = t

none-or : (o : Option ℕ) → ((t : ℕ) → o ≡ Some t → ⊥) → o ≡ None
none-or None no_some = refl
none-or (Some t) no_some = absurd (no_some t refl)

free-or : (τ : ℕ) (o : Option ℕ) → ((t : ℕ) → o ≡ Some t → t ≡ τ) → IsFreeFor τ o
free-or τ None same = inl refl
free-or τ (Some t) same = inr (ap (λ (u : ℕ). Some u) (same t refl))

set-at : {X : Type 0} (xs : List X) (i : ℕ) (y d : X) → (slice_index_or (slice_set xs i y) i d ≡ y) ⊎ (slice_index_or (slice_set xs i y) i d
    ≡ slice_index_or xs i d)
set-at [] i y d = inr refl
set-at (x ∷ xs) zero y d = inl refl
set-at (x ∷ xs) (suc i) y d = set-at xs i y d

lent-at : (at r t : ℕ) (ss : List (List (Option ℕ))) → (fraction_at (lent at r t ss) at r ≡ Some t) ⊎ (fraction_at (lent at r t ss) at r ≡ fraction_at ss at r)
lent-at at r t ss = by_row (set-at ss at row' []) (set-at row r (Some t) None)
  where
    row : List (Option ℕ)
    row = slice_index_or ss at []

    row' : List (Option ℕ)
    row' = slice_set row r (Some t)

    there : List (Option ℕ) → Option ℕ
    there fractions = slice_index_or fractions r None

    by_row : (slice_index_or (slice_set ss at row') at [] ≡ row') ⊎ (slice_index_or (slice_set ss at row') at [] ≡ row)
        → (there row' ≡ Some t) ⊎ (there row' ≡ there row) → (fraction_at (lent at r t ss) at r ≡ Some t)
        ⊎ (fraction_at (lent at r t ss) at r ≡ fraction_at ss at r)
    by_row (inl e) (inl f) = inl (ap there e ∙ f)
    by_row (inl e) (inr f) = inr (ap there e ∙ f)
    by_row (inr e) f = inr (ap there e)

module _ (IsSo : ℕ → ℕ → ℕ → Type 0) (ss : List (List (Option ℕ))) (all : AllLent IsSo ss) where
  -- nothing of a value is lent where nothing may be
  pub all-home : (at : ℕ) → ((r t : ℕ) → IsSo at r t → ⊥) → IsUnlent ss at
  all-home at never r = none-or (fraction_at ss at r) (λ t e. never r t (all at r t e))

  -- a fraction may be lent to a section where it can be lent to no other
  pub all-free : (at r τ : ℕ) → ((t : ℕ) → IsSo at r t → t ≡ τ) → IsFreeFor τ (fraction_at ss at r)
  all-free at r τ same = free-or τ (fraction_at ss at r) (λ t e. same t (all at r t e))

  pub all-lent : (at r t : ℕ) → IsSo at r t → AllLent IsSo (lent at r t ss)
  all-lent at r t so k q u e = by_place (same-place k at) (same-place q r)
    where
      here : ℕ × ℕ → Option ℕ
      here j = fraction_at (lent at r t ss) j.0 j.1

      by_fraction : here (at, r) ≡ Some u → (here (at, r) ≡ Some t) ⊎ (here (at, r) ≡ fraction_at ss at r) → IsSo at r u
      by_fraction f (inl g) = subst (λ (v : ℕ). IsSo at r v) (ap told (sym g ∙ f)) so
      by_fraction f (inr g) = all at r u (sym g ∙ f)

      by_place : (k ≡ at) ⊎ (k ≡ at → ⊥) → (q ≡ r) ⊎ (q ≡ r → ⊥) → IsSo k q u
      by_place (inl i) (inl j) = let both : (k, q) ≡ (at, r) = λ d. (i d, j d) in
          subst (λ (p : ℕ × ℕ). IsSo p.0 p.1 u) (sym both) (by_fraction (ap here (sym both) ∙ e) (lent-at at r t ss))
      by_place (inr n) _ = all k q u (sym (lent-elsewhere at r t ss k q (λ i _. n i)) ∙ e)
      by_place (inl i) (inr n) = all k q u (sym (lent-elsewhere at r t ss k q (λ _ j. n j)) ∙ e)

  pub all-settled : (r : ℕ) → AllLent (λ at q t. IsSo at q t × (q ≡ r → ⊥)) (settled r ss)
  all-settled r k q u e = by_reader (same-place q r)
    where
      by_reader : (q ≡ r) ⊎ (q ≡ r → ⊥) → IsSo k q u × (q ≡ r → ⊥)
      by_reader (inl i) = absurd (some-is-none u (sym e ∙ ap (λ (j : ℕ). fraction_at (settled r ss) k j) i ∙ settled-there r ss k))
      by_reader (inr n) = (all k q u (sym (settled-elsewhere r ss k q n) ∙ e), n)

pub all-unlent : (IsSo : ℕ → ℕ → ℕ → Type 0) (n m : ℕ) → AllLent IsSo (unlent n m)
all-unlent IsSo n m at r t e = absurd (some-is-none t (sym e ∙ home-unlent n m at r))

-- ---- values and fractions
module _ {T : Type 0} (values : List (Option T)) (ss : List (List (Option ℕ))) (m : ℕ) (are : AreFractions values ss m) where
  pub are-put : (at : ℕ) (x : T) → slice_index_or values at None ≡ None → AreFractions (slice_set values at (Some x)) ss m
  are-put at x empty = record {
    each = λ k near. let long = length-set values at (Some x) in are.each k (omega (arith, long, near));
    empty = λ k e. by_place k e (same-place k at);
  }
    where
      by_place : (k : ℕ) → slice_index_or (slice_set values at (Some x)) k None ≡ None → (k ≡ at) ⊎ (k ≡ at → ⊥) → IsUnlent ss k
      by_place k e (inl is) = are.empty k (ap (λ (j : ℕ). slice_index_or values j None) is ∙ empty)
      by_place k e (inr n) = are.empty k (sym (set-elsewhere values at k (Some x) None n) ∙ e)

  pub are-taken : (at : ℕ) → IsUnlent ss at → AreFractions (slice_set values at None) ss m
  are-taken at home = record {
    each = λ k near. let long = length-set values at None in are.each k (omega (arith, long, near));
    empty = λ k e. by_place k e (same-place k at);
  }
    where
      by_place : (k : ℕ) → slice_index_or (slice_set values at None) k None ≡ None → (k ≡ at) ⊎ (k ≡ at → ⊥) → IsUnlent ss k
      by_place k e (inl is) = subst (λ (j : ℕ). IsUnlent ss j) (sym is) home
      by_place k e (inr n) = are.empty k (sym (set-elsewhere values at k None None n) ∙ e)

  row-lent : (at r t k : ℕ) → length (slice_index_or (lent at r t ss) k []) ≡ length (slice_index_or ss k [])
  row-lent at r t k = in_row ss at (slice_set (slice_index_or ss at []) r (Some t)) (length-set (slice_index_or ss at []) r (Some t)) k
    where
      in_row : (ss : List (List (Option ℕ))) (at : ℕ) (row : List (Option ℕ)) → length row ≡ length (slice_index_or ss at [])
          → (k : ℕ) → length (slice_index_or (slice_set ss at row) k []) ≡ length (slice_index_or ss k [])
      in_row [] at row same k = refl
      in_row (s ∷ ss) zero row same zero = same
      in_row (s ∷ ss) zero row same (suc k) = refl
      in_row (s ∷ ss) (suc at) row same zero = refl
      in_row (s ∷ ss) (suc at) row same (suc k) = in_row ss at row same k

  pub are-lent : (at r t : ℕ) (x : T) → slice_index_or values at None ≡ Some x → AreFractions values (lent at r t ss) m
  are-lent at r t x filled = record {
    each = λ k near. row-lent at r t k ∙ are.each k near;
    empty = λ k e q. lent-elsewhere at r t ss k q (λ is _. some-is-none x (sym filled ∙ ap (λ (j : ℕ). slice_index_or values j None) (sym is) ∙ e))
        ∙ are.empty k e q;
  }

  pub are-settled : (r : ℕ) → AreFractions values (settled r ss) m
  are-settled r = record {
    each = λ k near. ap length (row-settled r k ss) ∙ length-set (slice_index_or ss k []) r None ∙ are.each k near;
    empty = λ k e. home-after r ss k (λ q _. are.empty k e q);
  }

pub are-unlent : (T : Type 0) (n m : ℕ) → AreFractions {T = T} (replicate n None) (unlent n m) m
are-unlent T n m = record {
  each = λ k near. let none : Option T = None in let long = length-replicate n none in by_row n k (omega (arith, long, near));
  empty = λ k e. home-unlent n m k;
}
  where
    by_row : (n k : ℕ) → k < n → length (slice_index_or (unlent n m) k []) ≡ m
    by_row zero k near = absurd (omega arith)
    by_row (suc n) zero near = length-replicate m None
    by_row (suc n) (suc k) near = by_row n k (omega arith)

-- Lists of things by their numbers
use Rattle.std.proofs.Common.{◌≡◌, ◌≢◌, ℕ, zero, suc, ◌<◌, ◌≤◌, ◌∷◌, length, get_or, set, sym, refl, ap, subst, arith, All}
use Rattle.std.specs.Prelude.{Some, slice_get}
use Rattle.sdd_domain_steps.specs.Local.{listing}

module _ {A : Type 0} where
  pub listing_long : (n : ℕ) (f : ℕ → A) → length (listing n f) ≡ n
  listing_long zero f = refl
  listing_long (suc n) f = ap suc (listing_long n (λ i. f (suc i)))

  pub listing_at : (n : ℕ) (f : ℕ → A) (i : ℕ) (d : A) → i < n → get_or (listing n f) i d ≡ f i
  listing_at zero f i d l = absurd (omega arith)
  listing_at (suc n) f zero d l = refl
  listing_at (suc n) f (suc i) d l = listing_at n (λ j. f (suc j)) i d (omega arith)

  pub listing_get : (n : ℕ) (f : ℕ → A) (i : ℕ) → i < n → slice_get (listing n f) i ≡ Some (f i)
  listing_get zero f i l = absurd (omega arith)
  listing_get (suc n) f zero l = refl
  listing_get (suc n) f (suc i) l = listing_get n (λ j. f (suc j)) i (omega arith)

  pub listing_past : (n : ℕ) (f : ℕ → A) (i : ℕ) (d : A) → n ≤ i → get_or (listing n f) i d ≡ d
  listing_past zero f i d l = refl
  listing_past (suc n) f zero d l = absurd (omega arith)
  listing_past (suc n) f (suc i) d l = listing_past n (λ j. f (suc j)) i d (omega arith)

  pub listing_same : (n : ℕ) (f g : ℕ → A) → ((i : ℕ) → i < n → g i ≡ f i) → listing n g ≡ listing n f
  listing_same zero f g same = refl
  listing_same (suc n) f g same = let first = same 0 (omega arith) in
      let rest = listing_same n (λ i. f (suc i)) (λ i. g (suc i)) (λ i l. same (suc i) (omega arith)) in λ d. first d ∷ rest d

  -- one of them is another
  pub listing_set : (n : ℕ) (f g : ℕ → A) (k : ℕ) → ((i : ℕ) → i < n → i ≢ k → g i ≡ f i) → listing n g ≡ set (listing n f) k (g k)
  listing_set zero f g k others = refl
  listing_set (suc n) f g zero others = let rest = listing_same n (λ i. f (suc i)) (λ i. g (suc i))
      (λ i l. others (suc i) (omega arith) (λ e. absurd (omega arith))) in
      λ d. g 0 ∷ rest d
  listing_set (suc n) f g (suc k) others = let first = others 0 (omega arith) (λ e. absurd (omega arith)) in
      let rest = listing_set n (λ i. f (suc i)) (λ i. g (suc i)) k (λ i l ne. others (suc i) (omega arith) (λ e. ne (omega arith))) in
      λ d. first d ∷ rest d

  -- something is true of all of them
  pub listing_all : (P : A → Type 0) (n : ℕ) (f : ℕ → A) → ((i : ℕ) → i < n → P (f i)) → All P (listing n f)
  listing_all P n f each k d l = let low : k < n = (let e = listing_long n f in omega arith) in subst P (sym (listing_at n f k d low)) (each k low)

  pub all_listed : (P : A → Type 0) (n : ℕ) (f : ℕ → A) → All P (listing n f) → (i : ℕ) → i < n → P (f i)
  all_listed P n f all i l = let low : i < length (listing n f) = (let e = listing_long n f in omega arith) in
      subst P (listing_at n f i (f i) l) (all i (f i) low)

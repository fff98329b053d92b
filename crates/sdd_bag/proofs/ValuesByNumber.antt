-- The values in places, by their numbers
use Rattle.std.proofs.Common.{◌≡◌, ℕ, zero, suc, ◌+◌, ◌<◌, ◌≤◌, List, [], ◌∷◌, ◌++◌, Option, Some, None, length, take, is_some, slice_get, slice_set, false, refl, sym, ap, ◌∙◌, arith}
use Rattle.std.proofs.lemmas.List.{take_all}
use Rattle.sdd_bag.specs.Storage.{KeptPlace, followed, value_at, values_in, with_value_at}
use Rattle.sdd_bag.proofs.InsertedKeys.{not-there}
use Rattle.sdd_bag.proofs.Prefixes.{one_if, values-next}

module _ {A : Type 0} where
  pub get-behind : (xs ys : List A) (k : ℕ) → slice_get (xs ++ ys) (length xs + k) ≡ slice_get ys k
  get-behind [] ys k = let same : 0 + k ≡ k = omega arith in ap (λ (j : ℕ). slice_get ys j) same
  get-behind (x ∷ xs) ys k =
      let same : length (x ∷ xs) + k ≡ suc (length xs + k) = omega arith in ap (λ (j : ℕ). slice_get (x ∷ xs ++ ys) j) same ∙ get-behind xs ys k

  pub set-behind : (xs ys : List A) (k : ℕ) (a : A) → slice_set (xs ++ ys) (length xs + k) a ≡ xs ++ slice_set ys k a
  set-behind [] ys k a = let same : 0 + k ≡ k = omega arith in ap (λ (j : ℕ). slice_set ys j a) same
  set-behind (x ∷ xs) ys k a =
      let same : length (x ∷ xs) + k ≡ suc (length xs + k) = omega arith in
      ap (λ (j : ℕ). slice_set (x ∷ xs ++ ys) j a) same ∙ ap (λ (zs : List A). x ∷ zs) (set-behind xs ys k a)

  pub set-front : (xs ys : List A) (k : ℕ) (v a : A) → slice_get xs k ≡ Some v → slice_set (xs ++ ys) k a ≡ slice_set xs k a ++ ys
  set-front [] ys k v a there = absurd (not-there v there)
  set-front (x ∷ xs) ys zero v a there = refl
  set-front (x ∷ xs) ys (suc k) v a there = ap (λ (zs : List A). x ∷ zs) (set-front xs ys k v a there)

  pub set-long : (xs : List A) (k : ℕ) (a : A) → length (slice_set xs k a) ≡ length xs
  set-long [] k a = refl
  set-long (x ∷ xs) zero a = refl
  set-long (x ∷ xs) (suc k) a = ap suc (set-long xs k a)

module _ {T : Type 0} where
  step-was : (o : Option T) (vs us : List T) (v : T) → slice_get vs (length us) ≡ Some v → slice_get (followed o vs) (length (followed o us)) ≡ Some v
  step-was None vs us v is = is
  step-was (Some x) vs us v is = is

  step-now : (o : Option T) (vs us ws : List T) (w : T) → ws ≡ slice_set vs (length us) w
      → followed o ws ≡ slice_set (followed o vs) (length (followed o us)) w
  step-now None vs us ws w is = is
  step-now (Some x) vs us ws w is = ap (λ (zs : List T). x ∷ zs) is

  step-one : (o : Option T) (us ts : List T) → length ts ≡ suc (length us) → length (followed o ts) ≡ suc (length (followed o us))
  step-one None us ts is = is
  step-one (Some x) us ts is = ap suc is

  -- the value of a place has the number of those before it
  pub number-was : (ps : List (KeptPlace T)) (i : ℕ) (v : T) → value_at ps i ≡ Some v → slice_get (values_in ps) (length (values_in (take i ps))) ≡ Some v
  number-was [] i v there = absurd (not-there v there)
  number-was (p ∷ ps) zero v there = ap (λ (o : Option T). slice_get (followed o (values_in ps)) 0) there
  number-was (p ∷ ps) (suc i) v there = step-was p.value (values_in ps) (values_in (take i ps)) v (number-was ps i v there)

  pub number-now : (ps : List (KeptPlace T)) (i : ℕ) (v w : T) → value_at ps i ≡ Some v
      → values_in (with_value_at ps i (Some w)) ≡ slice_set (values_in ps) (length (values_in (take i ps))) w
  number-now [] i v w there = absurd (not-there v there)
  number-now (p ∷ ps) zero v w there = ap (λ (o : Option T). slice_set (followed o (values_in ps)) 0 w) (sym there)
  number-now (p ∷ ps) (suc i) v w there =
      step-now p.value (values_in ps) (values_in (take i ps)) (values_in (with_value_at ps i (Some w))) w (number-now ps i v w there)

  pub number-next : (ps : List (KeptPlace T)) (i : ℕ) (v w : T) → value_at ps i ≡ Some v
      → length (values_in (take (suc i) (with_value_at ps i (Some w)))) ≡ suc (length (values_in (take i ps)))
  number-next [] i v w there = absurd (not-there v there)
  number-next (p ∷ ps) zero v w there = refl
  number-next (p ∷ ps) (suc i) v w there =
      step-one p.value (values_in (take i ps)) (values_in (take (suc i) (with_value_at ps i (Some w)))) (number-next ps i v w there)

  -- there are as many values before the places without one as behind them
  pub none-passed : (ps : List (KeptPlace T)) (i d : ℕ) → ((k : ℕ) → k < d → is_some (value_at ps (i + k)) ≡ false)
      → length (values_in (take (i + d) ps)) ≡ length (values_in (take i ps))
  none-passed ps i zero none = let same : i + 0 ≡ i = omega arith in ap (λ (j : ℕ). length (values_in (take j ps))) same
  none-passed ps i (suc d) none =
      let next = values-next ps (i + d) (i + suc d) (omega arith) in
      let empty : one_if (is_some (value_at ps (i + d))) ≡ 0 = ap one_if (none d (omega arith)) in
      omega (arith, next, empty, none-passed ps i d (λ k near. none k (omega (arith, near))))

  pub all-before : (ps : List (KeptPlace T)) (n : ℕ) → length ps ≤ n → length (values_in (take n ps)) ≡ length (values_in ps)
  all-before ps n long = ap (λ (qs : List (KeptPlace T)). length (values_in qs)) (take_all n ps long)

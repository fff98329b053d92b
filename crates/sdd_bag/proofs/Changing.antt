-- Values that are lent one after another, and changed in their places
use Rattle.std.proofs.Common.{◌≡◌, ℕ, zero, suc, ◌+◌, ◌*◌, ◌^◌, ◌<◌, ◌≤◌, List, [], ◌∷◌, Option, Some, None, length, slice_get, is_some, true, false, refl, sym, ap, ◌∙◌, subst, arith}
use Rattle.core.specs.Fn.{CalledAtMut, Mut}
use Rattle.std.specs.Borrow.{MutBor}
use Rattle.sdd_bag.specs.KeyedPlaces.{PlaceName}
use Rattle.std.proofs.lemmas.Bool.{le-ltb, lt-ltb}
use Rattle.std.proofs.lemmas.List.{length-map}
use Rattle.std.proofs.Math.Nat.{suc-mul}
use Rattle.sdd_bag.specs.Storage.{AreCounted, KeptPlace, followed, names_of, value_at, values_in, with_value_at}
use Rattle.sdd_bag.specs.Changing.{ChangesEach, ChangesFirst, ChangesIfSome}
use Rattle.sdd_bag.proofs.InsertedKeys.{get-inside, not-there}
use Rattle.sdd_bag.proofs.Prefixes.{as-long}

times-few : (n len : ℕ) → len ≤ 32 → n * len ≤ n * 32
times-few zero len few = omega arith
times-few (suc n) len few = omega (arith, times-few n len few, suc-mul n len, suc-mul n 32)

get-some : {A : Type 0} (xs : List A) (k : ℕ) → k < length xs → (x : A) × (slice_get xs k ≡ Some x)
get-some [] k near = absurd (omega (arith, near))
get-some (x ∷ xs) zero near = (x, refl)
get-some (x ∷ xs) (suc k) near = get-some xs k (omega (arith, near))

module _ {T : Type 0} where
  -- the keys of an array's places are among these
  pub keys-inside : (names : List PlaceName) (ps : List (KeptPlace T)) (start len : ℕ) → length names ≡ len
      → ((k : ℕ) (name : PlaceName) → slice_get names k ≡ Some name → slice_get (names_of ps) (start + k) ≡ Some name)
      → (k : ℕ) → k < len → start + k < length ps
  keys-inside names ps start len long keys k near =
      let got = get-some names k (omega (arith, near, long)) in
      omega (arith, get-inside (names_of ps) (start + k) got.0 (keys k got.0 got.1), length-map ps (λ (p : KeptPlace T). p.name))

  module _ (len count arrays : ℕ) (ps : List (KeptPlace T)) (are : AreCounted len count arrays ps) where
    pub few-counted : length ps < 2 ^ 120
    few-counted = omega (arith, are.size, are.few, times-few arrays len are.fits)

    pub first-full : (k : ℕ) → k < count → is_some (value_at ps k) ≡ true
    first-full k near = sym (are.counted k (omega (arith, near, are.most))) ∙ lt-ltb k count near

    pub first-empty : (k : ℕ) → count ≤ k → k < len → is_some (value_at ps k) ≡ false
    first-empty k far near = sym (are.counted k near) ∙ le-ltb k count far

    -- where other values are in the same places, as many are counted
    pub same-counted : (qs : List (KeptPlace T)) → names_of qs ≡ names_of ps → ((k : ℕ) → is_some (value_at qs k) ≡ is_some (value_at ps k))
        → AreCounted len count arrays qs
    same-counted qs names same =
        let long = as-long ps qs names in
        record {
          some = are.some;
          fits = are.fits;
          few = are.few;
          size = long ∙ are.size;
          most = are.most;
          counted = λ k near. are.counted k near ∙ sym (same k);
          behind = λ k far near. same k ∙ are.behind k far (omega (arith, near, long));
        }

-- a place that has another value has one as before
pub some-kept : {T : Type 0} (ps : List (KeptPlace T)) (at : ℕ) (v w : T) → value_at ps at ≡ Some v → (k : ℕ)
    → is_some (value_at (with_value_at ps at (Some w)) k) ≡ is_some (value_at ps k)
some-kept [] at v w there k = refl
some-kept (p ∷ ps) zero v w there zero = sym (ap is_some there)
some-kept (p ∷ ps) zero v w there (suc k) = refl
some-kept (p ∷ ps) (suc at) v w there zero = refl
some-kept (p ∷ ps) (suc at) v w there (suc k) = some-kept ps at v w there k

-- what a place has last is what it has
pub with-twice : {T : Type 0} (ps : List (KeptPlace T)) (at : ℕ) (v w : Option T) → with_value_at (with_value_at ps at v) at w ≡ with_value_at ps at w
with-twice [] at v w = refl
with-twice (p ∷ ps) zero v w = refl
with-twice {T = T} (p ∷ ps) (suc at) v w = ap (λ (rs : List (KeptPlace T)). p ∷ rs) (with-twice ps at v w)

module _ {F T : Type 0} (calls : Mut F (MutBor T × Unit {0}) (Unit {0} × (MutBor T × Unit {0}))) where
  pub none-changed : (f : F) (ps : List (KeptPlace T)) → ChangesFirst calls zero f ps ps f
  none-changed f [] = (refl, refl)
  none-changed f (p ∷ ps) = (refl, refl)

  -- one more is changed
  pub one-changed : (n : ℕ) (f : F) (ps qs : List (KeptPlace T)) (g : F) (v w : T) (h : F) → ChangesFirst calls n f ps qs g → value_at qs n ≡ Some v
      → CalledAtMut calls g v tt h w → ChangesFirst calls (suc n) f ps (with_value_at qs n (Some w)) h
  one-changed n f [] qs g v w h changed there called =
      absurd (not-there v (ap (λ (rs : List (KeptPlace T)). value_at rs n) (sym changed.0) ∙ there))
  one-changed zero f (p ∷ ps) qs g v w h changed there called =
      let here : p.value ≡ Some v = ap (λ (rs : List (KeptPlace T)). value_at rs zero) (sym changed.0) ∙ there in (
        Some w,
        ps,
        ap (λ (rs : List (KeptPlace T)). with_value_at rs zero (Some w)) changed.0,
        h,
        subst (λ (o : Option T). ChangesIfSome calls f o (Some w) h) (sym here) (
          w,
          refl,
          subst (λ (e : F). CalledAtMut calls e v tt h w)
              (sym changed.1) called,
        ),
        none-changed h ps,
      )
  one-changed (suc n) f (p ∷ ps) qs g v w h changed there called = (
    changed.0,
    with_value_at changed.1 n (Some w),
    ap (λ (rs : List (KeptPlace T)). with_value_at rs (suc n) (Some w)) changed.2,
    changed.3,
    changed.4,
    one-changed n changed.3 ps changed.1 g v w h changed.5 (ap (λ (rs : List (KeptPlace T)). value_at rs (suc n)) (sym changed.2) ∙ there) called,
  )

  not-some : (o : Option T) → is_some o ≡ false → o ≡ None
  not-some None none = refl
  not-some (Some v) none = absurd (cc)

  -- a place without a value is passed
  pub one-passed : (n : ℕ) (f : F) (ps qs : List (KeptPlace T)) (g : F) → ChangesFirst calls n f ps qs g → is_some (value_at qs n) ≡ false
      → ChangesFirst calls (suc n) f ps qs g
  one-passed n f [] qs g changed none = changed
  one-passed zero f (p ∷ ps) qs g changed none =
      let here : p.value ≡ None = not-some p.value (ap (λ (rs : List (KeptPlace T)). is_some (value_at rs zero)) (sym changed.0) ∙ none) in (
        None,
        ps,
        changed.0 ∙ ap (λ (o : Option T). record p { value = o } ∷ ps) here,
        f,
        subst (λ (o : Option T). ChangesIfSome calls f o None f) (sym here) (refl, refl),
        subst (λ (e : F). ChangesFirst calls zero f ps ps e) changed.1 (none-changed f ps),
      )
  one-passed (suc n) f (p ∷ ps) qs g changed none = (
    changed.0,
    changed.1,
    changed.2,
    changed.3,
    changed.4,
    one-passed n changed.3 ps changed.1 g changed.5 (ap (λ (rs : List (KeptPlace T)). is_some (value_at rs (suc n))) (sym changed.2) ∙ none),
  )

  pub all-passed : (m n : ℕ) (f : F) (ps qs : List (KeptPlace T)) (g : F) → ChangesFirst calls n f ps qs g
      → ((k : ℕ) → k < m → is_some (value_at qs (n + k)) ≡ false) → ChangesFirst calls (n + m) f ps qs g
  all-passed zero n f ps qs g changed none =
      let same : n ≡ n + 0 = omega arith in subst (λ (k : ℕ). ChangesFirst calls k f ps qs g) same changed
  all-passed (suc m) n f ps qs g changed none =
      let here : n + 0 ≡ n = omega arith in
      let next = one-passed n f ps qs g changed (ap (λ (j : ℕ). is_some (value_at qs j)) (sym here) ∙ none 0 (omega arith)) in
      let step : suc n + m ≡ n + suc m = omega arith in
      subst (λ (k : ℕ). ChangesFirst calls k f ps qs g) step
      (all-passed m (suc n) f ps qs g next
      (λ k near. let at : n + suc k ≡ suc n + k = omega arith in
      ap (λ (j : ℕ). is_some (value_at qs j)) (sym at) ∙ none (suc k) (omega (arith, near))))

  one-each : (f : F) (o now : Option T) (then : F) (vs ws : List T) (g : F) → ChangesIfSome calls f o now then → ChangesEach calls then vs ws g
      → ChangesEach calls f (followed o vs) (followed now ws) g
  one-each f None now then vs ws g here rest =
      subst (λ (n : Option T). ChangesEach calls f vs (followed n ws) g) (sym here.0) (subst (λ (e : F). ChangesEach calls e vs ws g) (sym here.1) rest)
  one-each f (Some v) now then vs ws g here rest =
      subst (λ (n : Option T). ChangesEach calls f (v ∷ vs) (followed n ws) g) (sym here.1) (then, here.2, rest)

  -- each value of all places is changed
  pub each-changed : (n : ℕ) (f : F) (ps qs : List (KeptPlace T)) (g : F) → length ps ≤ n → ChangesFirst calls n f ps qs g
      → ChangesEach calls f (values_in ps) (values_in qs) g
  each-changed n f [] qs g long changed = subst (λ (rs : List (KeptPlace T)). ChangesEach calls f [] (values_in rs) g) (sym changed.0) changed.1
  each-changed zero f (p ∷ ps) qs g long changed = absurd (omega (arith, long))
  each-changed (suc n) f (p ∷ ps) qs g long changed =
      subst (λ (rs : List (KeptPlace T)). ChangesEach calls f (values_in (p ∷ ps)) (values_in rs) g) (sym changed.2)
      (one-each f p.value changed.0 changed.3 (values_in ps) (values_in changed.1) g changed.4
      (each-changed n changed.3 ps changed.1 g (omega (arith, long)) changed.5))

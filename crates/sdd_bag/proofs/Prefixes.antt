-- Places of which the first so many have values, and what is so of places with a value changed
use Rattle.std.proofs.Common.{◌≡◌, ◌≢◌, ℕ, zero, suc, ◌+◌, ◌-◌, ◌^◌, nat_lt, min, ◌*◌, ◌<◌, ◌≤◌, List, [], ◌∷◌, ◌++◌, Option, Some, None, length, map, take, drop, is_some, refl, sym, ap, ◌∙◌, subst, arith, inl, inr}
use mathlib.Core.Bool.{Bool, true, false}
use mathlib.Core.Logic.{dite}
use native.Mathlib.Decide.{ℕ_discrete}
use Rattle.std.proofs.lemmas.List.{length-drop, length-map, take-append-drop}
use Rattle.std.proofs.lemmas.Bool.{cases_lt, le-ltb, lt-ltb}
use Rattle.std.proofs.Math.Nat.{mul-suc, suc-mul}
use Rattle.sdd_bag.specs.KeyedPlaces.{PlaceName}
use Rattle.sdd_bag.specs.Storage.{AreCounted, AreEmpty, AreFull, AreFullBehind, KeptPlace, empty_place, followed, names_of, value_at, values_in, with_value_at}

abbrev IsTrueHere : Bool → Type 0
IsTrueHere true = Unit {0}
IsTrueHere false = ⊥

abbrev pub one_if : Bool → ℕ
one_if true = 1
one_if false = 0

few-times : (n len : ℕ) → 0 < n → len ≤ n * len
few-times zero len some = absurd (omega (arith, some))
few-times (suc n) len some = omega (arith, suc-mul n len)

few-arrays : (n len : ℕ) → 0 < len → n ≤ n * len
few-arrays n zero some = absurd (omega (arith, some))
few-arrays n (suc len) some = omega (arith, mul-suc n len)

next-times : (n len : ℕ) → (n + 1) * len ≡ n * len + len
next-times n len = let e : n + 1 ≡ suc n = omega arith in ap (λ (k : ℕ). k * len) e ∙ suc-mul n len

zero-times : (len : ℕ) → 0 * len ≡ 0
zero-times len = omega arith

-- a place is the next one, or another one, which has a value as before
one-above : (count k : ℕ) → k ≢ count → nat_lt k (count + 1) ≡ nat_lt k count
one-above count k other = elim (cases_lt k count) [
  | inl less ↦ lt-ltb k (count + 1) (omega (arith, less)) ∙ sym (lt-ltb k count less)
  | inr far ↦ le-ltb k (count + 1) (dite (ℕ_discrete k count) (λ same. absurd (other same)) (λ apart. omega (arith, far, apart))) ∙ sym (le-ltb k count far)
]

module _ {T : Type 0} where
  pub with-length : (ps : List (KeptPlace T)) (at : ℕ) (v : Option T) → length (with_value_at ps at v) ≡ length ps
  with-length [] at v = refl
  with-length (p ∷ ps) zero v = refl
  with-length (p ∷ ps) (suc at) v = ap suc (with-length ps at v)

  pub as-long : (ps qs : List (KeptPlace T)) → names_of qs ≡ names_of ps → length qs ≡ length ps
  as-long ps qs same =
      omega (
        arith,
        ap (λ (ns : List PlaceName). length ns) same,
        length-map ps (λ (p : KeptPlace T). p.name),
        length-map qs (λ (p : KeptPlace T). p.name),
      )

  pub some-there : (len : ℕ) (ps : List (KeptPlace T)) → ¬ (AreEmpty len ps) → 0 < length ps
  some-there len [] some = absurd (some (λ k near. refl))
  some-there len (p ∷ ps) some = omega arith

  pub some-long : (len : ℕ) (ps : List (KeptPlace T)) → ¬ (AreEmpty len ps) → 0 < len
  some-long zero ps some = absurd (some (λ k near. absurd (omega (arith, near))))
  some-long (suc len) ps some = omega arith

  pub with-same : (ps : List (KeptPlace T)) (at : ℕ) (v : Option T) → at < length ps → value_at (with_value_at ps at v) at ≡ v
  with-same [] at v inside = absurd (omega (arith, inside))
  with-same (p ∷ ps) zero v inside = refl
  with-same (p ∷ ps) (suc at) v inside = with-same ps at v (omega (arith, inside))

  pub with-other : (ps : List (KeptPlace T)) (at : ℕ) (v : Option T) (k : ℕ) → k ≢ at → value_at (with_value_at ps at v) k ≡ value_at ps k
  with-other [] at v k other = refl
  with-other (p ∷ ps) zero v zero other = absurd (other refl)
  with-other (p ∷ ps) zero v (suc k) other = refl
  with-other (p ∷ ps) (suc at) v zero other = refl
  with-other (p ∷ ps) (suc at) v (suc k) other = with-other ps at v k (λ e. other (ap suc e))

  pub with-none : (ps : List (KeptPlace T)) (at k : ℕ) → at < length ps → k ≡ at → value_at (with_value_at ps at None) k ≡ None
  with-none ps at k inside same = ap (λ (j : ℕ). value_at (with_value_at ps at None) j) same ∙ with-same ps at None inside

  -- the places behind are the same, whatever one of the first has
  pub behind-with : (len : ℕ) (ps : List (KeptPlace T)) (at : ℕ) (v : Option T) → at < len → AreFullBehind len ps → AreFullBehind len (with_value_at ps at v)
  behind-with len ps at v inside behind k far near =
      ap is_some (with-other ps at v k (λ e. absurd (omega (arith, far, inside, e)))) ∙ behind k far (omega (arith, near, with-length ps at v))

  pub value-inside : (ps : List (KeptPlace T)) (k : ℕ) → is_some (value_at ps k) ≡ true → k < length ps
  value-inside [] k e = absurd (subst IsTrueHere (sym e) tt)
  value-inside (p ∷ ps) zero e = omega arith
  value-inside (p ∷ ps) (suc k) e = omega (arith, value-inside ps k e)

  module _ (len count arrays : ℕ) (ps : List (KeptPlace T)) (m : AreCounted len count arrays ps) where
    pub one-more : (v : T) → count < len → count < length ps → AreCounted len (count + 1) arrays (with_value_at ps count (Some v))
    one-more v near there = record {
      some = m.some;
      fits = m.fits;
      few = m.few;
      size = with-length ps count (Some v) ∙ m.size;
      most = omega (arith, near);
      counted = λ k inside. dite (ℕ_discrete k count)
          (λ same.
          lt-ltb k (count + 1) (omega (arith, same))
          ∙ ap is_some (sym (with-same ps count (Some v) there))
          ∙ ap (λ (j : ℕ). is_some (value_at (with_value_at ps count (Some v)) j)) (sym same))
          (λ other.
          one-above count k other ∙ m.counted k inside ∙ ap is_some (sym (with-other ps count (Some v) k other)));
      behind = behind-with len ps count (Some v) near m.behind;
    }

    pub one-fewer : (at : ℕ) → at + 1 ≡ count → at < length ps → AreCounted len at arrays (with_value_at ps at None)
    one-fewer at last there = record {
      some = m.some;
      fits = m.fits;
      few = m.few;
      size = with-length ps at None ∙ m.size;
      most = omega (arith, m.most, last);
      counted = λ k inside. dite (ℕ_discrete k at)
          (λ same.
          le-ltb k at (omega (arith, same))
          ∙ ap is_some (sym (with-same ps at None there))
          ∙ ap (λ (j : ℕ). is_some (value_at (with_value_at ps at None) j)) (sym same))
          (λ other.
          sym (one-above at k other) ∙ ap (λ (n : ℕ). nat_lt k n) last ∙ m.counted k inside ∙ ap is_some (sym (with-other ps at None k other)));
      behind = behind-with len ps at None (omega (arith, m.most, last)) m.behind;
    }

  pub value-behind : (xs ys : List (KeptPlace T)) (m k : ℕ) → m ≡ length xs + k → value_at (xs ++ ys) m ≡ value_at ys k
  value-behind [] ys m k e = ap (λ (j : ℕ). value_at ys j) (omega (arith, e))
  value-behind (x ∷ xs) ys zero k e = absurd (omega (arith, e))
  value-behind (x ∷ xs) ys (suc m) k e = value-behind xs ys m k (omega (arith, e))

  pub value-new : (names : List PlaceName) (ps : List (KeptPlace T)) (k : ℕ) → k < length names → value_at (map empty_place names ++ ps) k ≡ None
  value-new [] ps k inside = absurd (omega (arith, inside))
  value-new (n ∷ names) ps zero inside = refl
  value-new (n ∷ names) ps (suc k) inside = value-new names ps k (omega (arith, inside))

  pub value-drop : (n : ℕ) (ps : List (KeptPlace T)) (k m : ℕ) → m ≡ n + k → value_at (drop n ps) k ≡ value_at ps m
  value-drop zero ps k m e = ap (λ (j : ℕ). value_at ps j) (omega (arith, e))
  value-drop (suc n) [] k m e = refl
  value-drop (suc n) (p ∷ ps) k zero e = absurd (omega (arith, e))
  value-drop (suc n) (p ∷ ps) k (suc m) e = value-drop n ps k m (omega (arith, e))

  pub value-outside : (ps : List (KeptPlace T)) (k : ℕ) → length ps ≤ k → value_at ps k ≡ None
  value-outside [] k far = refl
  value-outside (p ∷ ps) zero far = absurd (omega (arith, far))
  value-outside (p ∷ ps) (suc k) far = value-outside ps k (omega (arith, far))

  new-long : (names : List PlaceName) (ps : List (KeptPlace T)) → length (map empty_place names ++ ps) ≡ length names + length ps
  new-long [] ps = omega arith
  new-long (n ∷ names) ps = omega (arith, new-long names ps)

  -- where all places have values, and some without are put in front
  pub behind-new : (len : ℕ) (names : List PlaceName) (ps : List (KeptPlace T)) → length names ≡ len → AreFull len ps → AreFullBehind len ps
      → AreFullBehind len (map empty_place names ++ ps)
  behind-new len names ps long full behind k far near =
      let all : (j : ℕ) → j < length ps → is_some (value_at ps j) ≡ true =
      λ j inside. elim (cases_lt j len) [ inl less ↦ full j less inside | inr more ↦ behind j more inside ] in
      let shift = length-map names (λ (n : PlaceName). empty_place {T = T} n) in
      ap is_some (value-behind (map empty_place names) ps k (k - len) (omega (arith, far, long, shift)))
      ∙ all (k - len) (omega (arith, far, near, new-long names ps, long))

  -- the first places are gone
  pub behind-drop : (len : ℕ) (ps : List (KeptPlace T)) → AreFullBehind len ps → AreFullBehind len (drop len ps)
  behind-drop len ps behind k far near =
      ap is_some (value-drop len ps k (len + k) refl) ∙ behind (len + k) (omega arith) (omega (arith, near, length-drop len ps))

  pub newly-counted : (len count arrays : ℕ) (names : List PlaceName) (ps : List (KeptPlace T)) → length names ≡ len → AreFull len ps
      → length ps < 2 ^ 80 → AreCounted len count arrays ps → AreCounted len 0 (arrays + 1) (map empty_place names ++ ps)
  newly-counted len count arrays names ps long full short m =
      record {
        some = m.some;
        fits = m.fits;
        few = omega (arith, few-arrays arrays len m.some, m.size, short);
        size = omega (arith, new-long names ps, m.size, long, next-times arrays len);
        most = omega arith;
        counted = λ k near. le-ltb k 0 (omega arith) ∙ ap is_some (sym (value-new names ps k (omega (arith, near, long))));
        behind = behind-new len names ps long full m.behind;
      }

  pub some-arrays : (len count arrays : ℕ) (ps : List (KeptPlace T)) → 0 < length ps → AreCounted len count arrays ps → 0 < arrays
  some-arrays len count zero ps some m = absurd (omega (arith, some, m.size, zero-times len))
  some-arrays len count (suc arrays) ps some m = omega arith

  -- the places of all arrays but the first have values
  pub rest-full : (len count arrays : ℕ) (ps : List (KeptPlace T)) → AreCounted len count arrays ps
      → (k : ℕ) → k < length (drop len ps) → is_some (value_at (drop len ps) k) ≡ true
  rest-full len count arrays ps m k near =
      ap is_some (value-drop len ps k (len + k) refl) ∙ m.behind (len + k) (omega arith) (omega (arith, near, length-drop len ps))

  pub front-removed : (len count arrays left : ℕ) (ps : List (KeptPlace T)) → 0 < length ps → AreCounted len count arrays ps → left + 1 ≡ arrays
      → (now : ℕ) → (0 < left → now ≡ len) → (left ≡ 0 → now ≡ 0) → AreCounted len now left (drop len ps)
  front-removed len count arrays left ps some m fewer now full none =
      let times : arrays * len ≡ left * len + len = ap (λ (n : ℕ). n * len) (sym fewer) ∙ next-times left len in
      let size : length (drop len ps) ≡ left * len = omega (arith, length-drop len ps, m.size, times) in
      let each : (k : ℕ) → k < length (drop len ps) → is_some (value_at (drop len ps) k) ≡ true = rest-full len count arrays ps m in
      record {
        some = m.some;
        fits = m.fits;
        few = omega (arith, m.few, fewer);
        size = size;
        most = elim (cases_lt 0 left) [ inl more ↦ omega (arith, full more) | inr least ↦ omega (arith, none (omega (arith, least))) ];
        counted = λ k near. elim (cases_lt 0 left) [
          | inl more ↦ lt-ltb k now (omega (arith, near, full more)) ∙ sym (each k (omega (arith, near, size, few-times left len more)))
          | inr least ↦
              let zero-left : left ≡ 0 = omega (arith, least) in
              let short : length (drop len ps) ≡ 0 = size ∙ ap (λ (n : ℕ). n * len) zero-left ∙ zero-times len in
              le-ltb k now (omega (arith, none zero-left)) ∙ ap is_some (sym (value-outside (drop len ps) k (omega (arith, short))))
        ];
        behind = λ k far near. each k near;
      }

  followed-more : (v : Option T) (vs : List T) → length (followed v vs) ≡ length vs + one_if (is_some v)
  followed-more None vs = omega arith
  followed-more (Some v) vs = omega arith

  followed-one : (v : Option T) → length (followed v []) ≡ one_if (is_some v)
  followed-one None = refl
  followed-one (Some v) = refl

  followed-full : (v : Option T) (vs : List T) → is_some v ≡ true → length (followed v vs) ≡ suc (length vs)
  followed-full None vs e = absurd (subst IsTrueHere (sym e) tt)
  followed-full (Some v) vs e = refl

  pub values-front : (xs ys : List (KeptPlace T)) → length (values_in (xs ++ ys)) ≡ length (values_in xs) + length (values_in ys)
  values-front [] ys = omega arith
  values-front (x ∷ xs) ys =
      omega (arith, followed-more x.value (values_in (xs ++ ys)), followed-more x.value (values_in xs), values-front xs ys)

  pub values-full : (ps : List (KeptPlace T)) → ((k : ℕ) → k < length ps → is_some (value_at ps k) ≡ true) → length (values_in ps) ≡ length ps
  values-full [] full = refl
  values-full (p ∷ ps) full =
      let rest = values-full ps (λ k near. full (suc k) (omega (arith, near))) in
      omega (arith, rest, followed-full p.value (values_in ps) (full 0 (omega arith)))

  pub values-next : (ps : List (KeptPlace T)) (k n : ℕ) → n ≡ suc k
      → length (values_in (take n ps)) ≡ length (values_in (take k ps)) + one_if (is_some (value_at ps k))
  values-next ps k zero e = absurd (omega (arith, e))
  values-next [] zero (suc n) e = refl
  values-next [] (suc k) (suc n) e = refl
  values-next (p ∷ ps) zero (suc n) e =
      let none : n ≡ 0 = omega (arith, e) in
      omega (arith, ap (λ (j : ℕ). length (values_in (p ∷ take j ps))) none, followed-one p.value)
  values-next (p ∷ ps) (suc k) (suc n) e =
      omega (arith, followed-more p.value (values_in (take n ps)), followed-more p.value (values_in (take k ps)), values-next ps k n (omega (arith, e)))

  -- among the first n places there are as many values as of these have one
  values-first : (count n : ℕ) (ps : List (KeptPlace T)) → ((k : ℕ) → k < n → nat_lt k count ≡ is_some (value_at ps k))
      → length (values_in (take n ps)) ≡ min n count
  values-first count zero ps are = omega arith
  values-first count (suc n) ps are =
      let rest = values-first count n ps (λ k near. are k (omega (arith, near))) in
      let next = values-next ps n (suc n) refl in
      elim (cases_lt n count) [
        | inl less ↦
            let one : one_if (is_some (value_at ps n)) ≡ 1 = ap one_if (sym (are n (omega arith)) ∙ lt-ltb n count less) in
            omega (arith, rest, next, one, less)
        | inr far ↦
            let none : one_if (is_some (value_at ps n)) ≡ 0 = ap one_if (sym (are n (omega arith)) ∙ le-ltb n count far) in
            omega (arith, rest, next, none, far)
      ]

  pub all-counted : (len count arrays : ℕ) (ps : List (KeptPlace T)) → ¬ (arrays ≡ 0) → AreCounted len count arrays ps
      → count + (arrays - 1) * len ≡ length (values_in ps)
  all-counted len count zero ps some m = absurd (some refl)
  all-counted len count (suc arrays) ps some m =
      let rest : List (KeptPlace T) = drop len ps in
      let size : length rest ≡ arrays * len = omega (arith, length-drop len ps, m.size, suc-mul arrays len) in
      let each : (k : ℕ) → k < length rest → is_some (value_at rest k) ≡ true = rest-full len count (suc arrays) ps m in
      let both : length (values_in (take len ps ++ rest)) ≡ length (values_in ps) =
      ap (λ (qs : List (KeptPlace T)). length (values_in qs)) (take-append-drop len ps) in
      let less : (suc arrays - 1) * len ≡ arrays * len = let e : suc arrays - 1 ≡ arrays = omega arith in ap (λ (n : ℕ). n * len) e in
      omega (arith, both, values-front (take len ps) rest, values-full rest each, size, less, values-first count len ps m.counted, m.most)

-- A value that is out of its place for as long as it is lent, and comes back
use Rattle.std.proofs.Common.{◌≡◌, ◌≢◌, ◌⊎◌, inl, inr, ℕ, zero, suc, ◌+◌, ◌<◌, ◌≤◌, List, [], ◌∷◌, Option, Some, None, length, is_some, slice_get, true, false, refl, sym, ap, ◌∙◌, subst, arith}
use mathlib.Core.Logic.{dite}
use native.Mathlib.Decide.{ℕ_discrete}
use Rattle.std.proofs.lemmas.Bool.{cases_lt, le-ltb, lt-ltb}
use Rattle.sdd_bag.specs.KeyedPlaces.{PlaceName}
use Rattle.sdd_bag.specs.Storage.{AreCounted, AreEmpty, KeptPlace, names_of, value_at, with_value_at}
use Rattle.sdd_bag.specs.Lent.{AreEmptyFrom, IsArrayAt, IsGap, TakesLast, TakesOut, with_back}
use Rattle.sdd_bag.proofs.Changing.{with-twice}
use Rattle.sdd_bag.proofs.Prefixes.{one-more, with-length, with-other, with-same}
use Rattle.sdd_bag.proofs.Values.{names-same}

module _ {T : Type 0} where
  -- what is put into two places is there, whichever was first
  pub with-both : (ps : List (KeptPlace T)) (i j : ℕ) (a b : Option T) → i ≢ j
      → with_value_at (with_value_at ps i a) j b ≡ with_value_at (with_value_at ps j b) i a
  with-both [] i j a b apart = refl
  with-both (p ∷ ps) zero zero a b apart = absurd (apart refl)
  with-both (p ∷ ps) zero (suc j) a b apart = refl
  with-both (p ∷ ps) (suc i) zero a b apart = refl
  with-both (p ∷ ps) (suc i) (suc j) a b apart =
      ap (λ (qs : List (KeptPlace T)). p ∷ qs) (with-both ps i j a b (λ e. apart (ap suc e)))

  pub with-again : (ps : List (KeptPlace T)) (i : ℕ) (a : Option T) → value_at ps i ≡ a → with_value_at ps i a ≡ ps
  with-again [] i a was = refl
  with-again (p ∷ ps) zero a was = ap (λ (v : Option T). record p { value = v } ∷ ps) (sym was)
  with-again (p ∷ ps) (suc i) a was = ap (λ (qs : List (KeptPlace T)). p ∷ qs) (with-again ps i a was)

  -- the gap is where the counted values end
  gap-counted : (len count arrays gap : ℕ) (ps : List (KeptPlace T)) → AreCounted len count arrays ps → IsGap len gap ps → gap ≡ count
  gap-counted len count arrays gap ps are is = elim (cases_lt gap count) [
    | inl less ↦
        let never : true ≡ false = sym (lt-ltb gap count less) ∙ are.counted gap is.near ∙ ap is_some is.empty.empty in absurd (cc)
    | inr far ↦ elim (cases_lt count gap) [
      | inl less ↦
          let near : count < len = omega (arith, less, is.near) in
          let never : false ≡ true = sym (le-ltb count count (omega arith)) ∙ are.counted count near ∙ is.filled count less in absurd (cc)
      | inr more ↦ omega (arith, far, more)
    ]
  ]

  pub filled-counted : (len count arrays gap : ℕ) (ps : List (KeptPlace T)) (v : T) → AreCounted len count arrays ps → IsGap len gap ps
      → AreCounted len (gap + 1) arrays (with_value_at ps gap (Some v))
  filled-counted len count arrays gap ps v are is =
      let same = gap-counted len count arrays gap ps are is in
      one-more len gap arrays ps (subst (λ (n : ℕ). AreCounted len n arrays ps) (sym same) are) v is.near is.empty.inside

  -- the last of the places that are counted becomes the gap
  pub last-taken : (len count arrays gap : ℕ) (ps : List (KeptPlace T)) (v : T) → AreCounted len count arrays ps → gap + 1 ≡ count → gap < length ps
      → value_at ps gap ≡ Some v → TakesLast len gap v ps (with_value_at ps gap None)
  last-taken len count arrays gap ps v are last there was =
      let near : gap < len = omega (arith, last, are.most) in
      record {
        was = was;
        first = record {
          near = near;
          empty = record { inside = omega (arith, there, with-length ps gap None); empty = with-same ps gap None there };
          filled = λ k less.
              ap is_some (with-other ps gap None k (λ e. absurd (omega (arith, e, less))))
              ∙ sym (are.counted k (omega (arith, less, near))) ∙ lt-ltb k count (omega (arith, less, last));
        };
        now = refl;
      }

  -- the gap stays where another place gets a value
  pub gap-with : (len gap at : ℕ) (ps : List (KeptPlace T)) (v : T) → at ≢ gap → IsGap len gap ps → IsGap len gap (with_value_at ps at (Some v))
  gap-with len gap at ps v apart is = record {
    near = is.near;
    empty = record {
      inside = omega (arith, is.empty.inside, with-length ps at (Some v));
      empty = with-other ps at (Some v) gap (λ e. apart (sym e)) ∙ is.empty.empty;
    };
    filled = λ k less. dite (ℕ_discrete k at)
        (λ same.
        let there : at < length ps = omega (arith, same, less, is.empty.inside) in
        ap (λ (j : ℕ). is_some (value_at (with_value_at ps at (Some v)) j)) same ∙ ap is_some (with-same ps at (Some v) there))
        (λ other. ap is_some (with-other ps at (Some v) k other) ∙ is.filled k less);
  }

  -- the value belongs into the gap itself
  pub back-gap : (gap at : ℕ) (v : T) (ps : List (KeptPlace T)) → at ≡ gap → with_value_at ps gap (Some v) ≡ with_back gap at v ps
  back-gap gap at v ps same =
      sym (with-twice ps gap (value_at ps at) (Some v)) ∙ ap (λ (k : ℕ). with_value_at (with_value_at ps gap (value_at ps at)) k (Some v)) (sym same)

  -- the value is in its place, and what lay there goes into the gap
  pub back-other : (gap at : ℕ) (v last : T) (ps : List (KeptPlace T)) → at ≢ gap → value_at ps at ≡ Some last
      → with_value_at (with_value_at ps at (Some v)) gap (Some last) ≡ with_back gap at v ps
  back-other gap at v last ps apart was =
      with-both ps at gap (Some v) (Some last) apart ∙ ap (λ (o : Option T). with_value_at (with_value_at ps gap o) at (Some v)) (sym was)

  pub names-back : (gap at : ℕ) (v : T) (ps : List (KeptPlace T)) → names_of (with_back gap at v ps) ≡ names_of ps
  names-back gap at v ps = names-same (with_value_at ps gap (value_at ps at)) at (Some v) ∙ names-same ps gap (value_at ps at)

  -- the last value is taken out of its own place, to be lent
  pub out-last : (len gap at : ℕ) (v : T) (old new : List (KeptPlace T)) → at ≡ gap → TakesLast len gap v old new → TakesOut len gap at v old new
  out-last len gap at v old new same takes = record {
    was = ap (λ (k : ℕ). value_at old k) same ∙ takes.was;
    awaits = record { first = takes.first; there = inl same };
    back = λ w.
        sym (back-gap gap at w new same) ∙ ap (λ (qs : List (KeptPlace T)). with_value_at qs gap (Some w)) takes.now ∙ with-twice old gap None (Some w)
        ∙ ap (λ (k : ℕ). with_value_at old k (Some w)) (sym same);
  }

  -- another value is, and the last one lies in its place
  pub out-other : (len gap at : ℕ) (v last : T) (old between new : List (KeptPlace T)) → at ≢ gap → at < length old → TakesLast len gap last old between
      → value_at between at ≡ Some v → new ≡ with_value_at between at (Some last) → TakesOut len gap at v old new
  out-other len gap at v last old between new apart there takes was now =
      let long : length between ≡ length old = ap length takes.now ∙ with-length old gap None in
      let lies : value_at new at ≡ Some last =
      ap (λ (qs : List (KeptPlace T)). value_at qs at) now ∙ with-same between at (Some last) (omega (arith, there, long)) in
      record {
        was = sym (with-other old gap None at apart) ∙ ap (λ (qs : List (KeptPlace T)). value_at qs at) (sym takes.now) ∙ was;
        awaits = record {
          first = subst (λ (qs : List (KeptPlace T)). IsGap len gap qs) (sym now) (gap-with len gap at between last apart takes.first);
          there = inr (ap is_some lies);
        };
        back = λ w.
            ap (λ (o : Option T). with_value_at (with_value_at new gap o) at (Some w)) lies
            ∙ ap (λ (qs : List (KeptPlace T)). with_value_at (with_value_at qs gap (Some last)) at (Some w))
            (now ∙ ap (λ (qs : List (KeptPlace T)). with_value_at qs at (Some last)) takes.now)
            ∙ ap (λ (qs : List (KeptPlace T)). with_value_at qs at (Some w))
            (with-both (with_value_at old gap None) at gap (Some last) (Some last) apart
            ∙ ap (λ (qs : List (KeptPlace T)). with_value_at qs at (Some last))
            (with-twice old gap None (Some last) ∙ with-again old gap (Some last) takes.was))
            ∙ with-twice old at (Some last) (Some w);
      }

  -- no value is in the first places, and the array is the first one
  pub empty-first : (len start at : ℕ) (ps : List (KeptPlace T)) → (start ≡ 0) ⊎ (len ≤ start) × ¬ (AreEmpty len ps) → AreEmpty len ps
      → AreEmptyFrom len start at ps
  empty-first len start at ps (inl first) none =
      λ k far near. let same : start + k ≡ k = omega (arith, first) in ap (λ (j : ℕ). is_some (value_at ps j)) same ∙ none k near
  empty-first len start at ps (inr behind) none = absurd (behind.1 none)

  -- the array is where it was, whatever its places have
  pub array-kept : (len start : ℕ) (names : List PlaceName) (ps qs : List (KeptPlace T)) → names_of qs ≡ names_of ps → IsArrayAt len start names ps
      → IsArrayAt len start names qs
  array-kept len start names ps qs same is = record {
    long = is.long;
    keys = λ k name there. ap (λ (ns : List PlaceName). slice_get ns (start + k)) same ∙ is.keys k name there;
  }

  pub first-filled : (len count arrays : ℕ) (ps : List (KeptPlace T)) → AreCounted len count arrays ps → ¬ (AreEmpty len ps)
      → is_some (value_at ps 0) ≡ true
  first-filled len count arrays ps are some = elim (cases_lt 0 count) [
    | inl more ↦ sym (are.counted 0 are.some) ∙ lt-ltb 0 count more
    | inr none ↦ absurd (some (λ k near. sym (are.counted k near) ∙ le-ltb k count (omega (arith, none))))
  ]

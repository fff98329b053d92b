-- What a value that goes in or out makes of the values in places
use Rattle.std.proofs.Common.{◌≡◌, ℕ, zero, suc, ◌+◌, ◌<◌, ◌≤◌, List, [], ◌∷◌, Option, Some, None, length, drop, is_some, refl, sym, ap, ◌∙◌, subst, arith}
use mathlib.Core.Bool.{Bool, true, false}
use Rattle.sdd_bag.specs.KeyedPlaces.{PlaceName}
use Rattle.sdd_bag.specs.Storage.{AreEmpty, KeptPlace, followed, names_of, value_at, values_in, with_value_at}
use Rattle.sdd_bag.specs.Values.{HasOneMore}
use Rattle.sdd_bag.proofs.InsertedKeys.{not-there}

abbrev IsFalseHere : Bool → Type 0
IsFalseHere true = Unit {0}
IsFalseHere false = ⊥

module _ {T : Type 0} where
  pub names-same : (ps : List (KeptPlace T)) (at : ℕ) (v : Option T) → names_of (with_value_at ps at v) ≡ names_of ps
  names-same [] at v = refl
  names-same (p ∷ ps) zero v = refl
  names-same (p ∷ ps) (suc at) v = ap (λ (ns : List PlaceName). p.name ∷ ns) (names-same ps at v)

  further : (o : Option T) (v : T) (few many : List T) → HasOneMore v few many → HasOneMore v (followed o few) (followed o many)
  further None v few many one = one
  further (Some x) v few many one = record {
    before = x ∷ one.before;
    behind = one.behind;
    fewer = ap (λ (vs : List T). x ∷ vs) one.fewer;
    more = ap (λ (vs : List T). x ∷ vs) one.more;
  }

  pub one-in : (ps : List (KeptPlace T)) (at : ℕ) (v : T) → at < length ps → value_at ps at ≡ None
      → HasOneMore v (values_in ps) (values_in (with_value_at ps at (Some v)))
  one-in [] at v inside none = absurd (omega (arith, inside))
  one-in (p ∷ ps) zero v inside none = record {
    before = [];
    behind = values_in ps;
    fewer = ap (λ (o : Option T). followed o (values_in ps)) none;
    more = refl;
  }
  one-in (p ∷ ps) (suc at) v inside none =
      further p.value v (values_in ps) (values_in (with_value_at ps at (Some v))) (one-in ps at v (omega (arith, inside)) none)

  pub one-out : (ps : List (KeptPlace T)) (at : ℕ) (v : T) → value_at ps at ≡ Some v → HasOneMore v (values_in (with_value_at ps at None)) (values_in ps)
  one-out [] at v full = absurd (not-there v full)
  one-out (p ∷ ps) zero v full = record {
    before = [];
    behind = values_in ps;
    fewer = refl;
    more = ap (λ (o : Option T). followed o (values_in ps)) full;
  }
  one-out (p ∷ ps) (suc at) v full = further p.value v (values_in (with_value_at ps at None)) (values_in ps) (one-out ps at v full)

  none-first : (o : Option T) (vs : List T) → is_some o ≡ false → vs ≡ [] → followed o vs ≡ []
  none-first None vs none rest = rest
  none-first (Some v) vs none rest = absurd (subst IsFalseHere none tt)

  pub none-in : (ps : List (KeptPlace T)) → ((k : ℕ) → k < length ps → is_some (value_at ps k) ≡ false) → values_in ps ≡ []
  none-in [] empty = refl
  none-in (p ∷ ps) empty = none-first p.value (values_in ps) (empty 0 (omega arith)) (none-in ps (λ k near. empty (suc k) (omega (arith, near))))

  at-most : (o : Option T) (vs : List T) (n : ℕ) → length vs ≤ n → length (followed o vs) ≤ n + 1
  at-most None vs n few = omega (arith, few)
  at-most (Some v) vs n few = omega (arith, few)

  pub few-in : (ps : List (KeptPlace T)) → length (values_in ps) ≤ length ps
  few-in [] = omega arith
  few-in (p ∷ ps) = omega (arith, at-most p.value (values_in ps) (length ps) (few-in ps))

  more-than : (o : Option T) (vs : List T) → length (followed o vs) ≤ length vs + 1
  more-than None vs = omega arith
  more-than (Some v) vs = omega arith

  pub fewer-in : (ps : List (KeptPlace T)) (at : ℕ) → at < length ps → value_at ps at ≡ None → length (values_in ps) < length ps
  fewer-in [] at inside none = absurd (omega (arith, inside))
  fewer-in (p ∷ ps) zero inside none =
      omega (arith, few-in ps, ap (λ (o : Option T). length (followed o (values_in ps))) none)
  fewer-in (p ∷ ps) (suc at) inside none =
      omega (arith, more-than p.value (values_in ps), fewer-in ps at (omega (arith, inside)) none)

  -- the places behind the first so many are the same, whatever one of these has
  pub drop-with : (len : ℕ) (ps : List (KeptPlace T)) (at : ℕ) (v : Option T) → at < len → drop len (with_value_at ps at v) ≡ drop len ps
  drop-with zero ps at v near = absurd (omega (arith, near))
  drop-with (suc len) [] at v near = refl
  drop-with (suc len) (p ∷ ps) zero v near = refl
  drop-with (suc len) (p ∷ ps) (suc at) v near = drop-with len ps at v (omega (arith, near))

  not-followed : (o : Option T) (vs : List T) → is_some o ≡ false → followed o vs ≡ vs
  not-followed None vs none = refl
  not-followed (Some v) vs none = absurd (subst IsFalseHere none tt)

  -- places without values are gone, and no value
  pub values-left : (len : ℕ) (ps : List (KeptPlace T)) → AreEmpty len ps → values_in (drop len ps) ≡ values_in ps
  values-left zero ps empty = refl
  values-left (suc len) [] empty = refl
  values-left (suc len) (p ∷ ps) empty =
      values-left len ps (λ k near. empty (suc k) (omega (arith, near))) ∙ sym (not-followed p.value (values_in ps) (empty 0 (omega arith)))

  first-none : (o : Option T) (vs : List T) → followed o vs ≡ [] → is_some o ≡ false
  first-none None vs none = refl
  first-none (Some v) vs none = absurd (cc)

  rest-none : (o : Option T) (vs : List T) → followed o vs ≡ [] → vs ≡ []
  rest-none None vs none = none
  rest-none (Some v) vs none = absurd (cc)

  -- where there are no values, no place has one
  pub all-empty : (ps : List (KeptPlace T)) → values_in ps ≡ [] → (k : ℕ) → is_some (value_at ps k) ≡ false
  all-empty [] none k = refl
  all-empty (p ∷ ps) none zero = first-none p.value (values_in ps) none
  all-empty (p ∷ ps) none (suc k) = all-empty ps (rest-none p.value (values_in ps) none) k

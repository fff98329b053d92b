-- What a push and a pop make of a bag's own storage
use Rattle.std.proofs.Common.{◌≡◌, ℕ, ◌+◌, ◌<◌, List, [], ◌∷◌, ◌++◌, Option, Some, None, length, map, is_some, true, false, refl, sym, ap, ◌∙◌, arith}
use Rattle.std.specs.Prelude.{IfOk, IfSome, MatchOption, MatchResult, Result, Ok, Err}
use Rattle.sdd_bag.specs.KeyedPlaces.{PlaceName}
use Rattle.sdd_bag.specs.Storage.{AreEmpty, AreFull, IsEmptyAt, IsFullWith, KeptPlace, empty_place, names_of, value_at, values_in, with_value_at}
use Rattle.sdd_bag.specs.Values.{HasOneMore}
use Rattle.sdd_bag.proofs.Prefixes.{value-new, values-full, with-same}
use Rattle.sdd_bag.proofs.Values.{fewer-in, none-in}
use Rattle.sdd_bag.specs.Storages.{StorageName}
use Rattle.sdd_bag.specs.Primary.{PrimaryParts}

module _ {T : Type 0} where
  pub new-values : (names : List PlaceName) (ps : List (KeptPlace T)) → values_in (map empty_place names ++ ps) ≡ values_in ps
  new-values [] ps = refl
  new-values (n ∷ names) ps = new-values names ps

  pub new-names : (names : List PlaceName) (ps : List (KeptPlace T)) → names_of (map empty_place names ++ ps) ≡ names ++ names_of ps
  new-names [] ps = refl
  new-names (n ∷ names) ps = ap (λ (ns : List PlaceName). n ∷ ns) (new-names names ps)

  pub new-long : (names : List PlaceName) (ps : List (KeptPlace T))
      → length (map (λ (n : PlaceName). empty_place {T = T} n) names ++ ps) ≡ length names + length ps
  new-long [] ps = omega arith
  new-long (n ∷ names) ps = omega (arith, new-long names ps)

  module _ (len : ℕ) (s : StorageName) (old new : List (KeptPlace T)) (all : length old ≡ len) where
    abbrev with_places : List (KeptPlace T) → PrimaryParts T
    with_places ps = record { storage = s; places = ps }

    pub primary-pushed : (v : T) (r : Result (Unit {0}) T)
        → MatchResult r (λ _. (at : ℕ) × (at < len) × IsEmptyAt at old × (new ≡ with_value_at old at (Some v)))
        (λ back. (back ≡ v) × AreFull len old × (new ≡ old))
        → IfOk r (λ _. HasOneMore v (values_in old) (values_in new))
        → MatchResult r (λ _. (length (values_in old) < len) × HasOneMore v (values_in old) (values_in new))
        (λ back. (back ≡ v) × (length (values_in old) ≡ len) × (with_places new ≡ with_places old))
    primary-pushed v (Ok u) place more = (omega (arith, fewer-in old place.0 place.2.inside place.2.empty, all), more)
    primary-pushed v (Err back) place more = (
      place.0,
      values-full old (λ k near. place.1 k (omega (arith, near, all)) near) ∙ all,
      ap with_places place.2,
    )

    pub primary-popped : (r : Option T)
        → MatchOption r (AreEmpty len old × (new ≡ old)) (λ v. (at : ℕ) × (at < len) × IsFullWith v at old × (new ≡ with_value_at old at None))
        → IfSome r (λ v. HasOneMore v (values_in new) (values_in old))
        → MatchOption r ((values_in old ≡ []) × (with_places new ≡ with_places old)) (λ v. HasOneMore v (values_in new) (values_in old))
    primary-popped None place less = (none-in old (λ k near. place.0 k (omega (arith, near, all))), ap with_places place.1)
    primary-popped (Some v) place less = less

  pub not-empty : (len : ℕ) (old new : List (KeptPlace T)) (at : ℕ) (v : T) → at < len → at < length old → new ≡ with_value_at old at (Some v)
      → AreEmpty len new → ⊥
  not-empty len old new at v near inside is empty =
      let there : value_at new at ≡ Some v = ap (λ (ps : List (KeptPlace T)). value_at ps at) is ∙ with-same old at (Some v) inside in
      let never : false ≡ true = sym (empty at near) ∙ ap is_some there in absurd (cc)

  pub not-full : (len : ℕ) (names : List PlaceName) (ps all : List (KeptPlace T)) → 0 < len → length names ≡ len → all ≡ map empty_place names ++ ps
      → AreFull len all → ⊥
  not-full len names ps all some long are full =
      let first : value_at all 0 ≡ None = ap (λ (qs : List (KeptPlace T)). value_at qs 0) are ∙ value-new names ps 0 (omega (arith, some, long)) in
      let inside : 0 < length all = omega (arith, ap (λ (qs : List (KeptPlace T)). length qs) are, new-long names ps, some, long) in
      let never : false ≡ true = ap is_some (sym first) ∙ full 0 some inside in absurd (cc)

-- As many participants have a place as there are places, at most: a sum that counts some of those who have one is no greater.
use Rattle.std.proofs.Common.{◌≡◌, ◌≢◌, ℕ, zero, suc, ◌+◌, ◌<◌, ◌≤◌, eqb, List, [], ◌∷◌, refl, ap, eq-eqb, ne_eqb, arith}
use mathlib.Core.Option.{some}
use mathlib.Core.Logic.{dite}
use native.Mathlib.Decide.{ℕ_discrete, dec_lt}
use lib.ListN.{get_elem?}
use prog.Atomic.{either}
use Rattle.sdd_rights.specs.declared.views.EpochView.{EpochView}
use Rattle.sdd_rights.specs.declared.views.Sizes.{Sizes}
use Rattle.sdd_domain_invariant.specs.Sums.{total}
use Rattle.sdd_domain_invariant.specs.Epoch.{HasPlace, EpochInvariant}
use Rattle.sdd_domain_invariant.proofs.Sums.{total_zero}

module _ {X : Type 0} where
  total_both : (f g : X → ℕ) (vs : List X) → total (λ v. f v + g v) vs ≡ total f vs + total g vs
  total_both f g [] = refl
  total_both f g (x ∷ xs) = let s = total_both f g xs in omega arith

  total_low : (f g : X → ℕ) (vs : List X) → ((j : ℕ) (v : X) → get_elem? vs j ≡ some v → f v ≤ g v) → total f vs ≤ total g vs
  total_low f g [] low = omega arith
  total_low f g (x ∷ xs) low = let a = low 0 x refl in let s = total_low f g xs (λ j. low (suc j)) in omega arith

  -- where one of them counts at most, and once
  total_one : (f : X → ℕ) (vs : List X) → ((j : ℕ) (v : X) → get_elem? vs j ≡ some v → f v ≤ 1)
      → ((j k : ℕ) (v w : X) → j ≢ k → get_elem? vs j ≡ some v → get_elem? vs k ≡ some w → 0 < f v → ¬ (0 < f w)) → total f vs ≤ 1
  total_one f [] once apart = omega arith
  total_one f (x ∷ xs) once apart = let o = once 0 x refl in dite (dec_lt 0 (f x))
      (λ here. let z = total_zero f xs (λ j v e. let n = apart 0 (suc j) x v (λ d. omega arith) refl e here in omega arith) in omega arith)
      (λ none. let s = total_one f xs (λ j. once (suc j)) (λ j k v w ne. apart (suc j) (suc k) v w (λ d. ne (omega arith))) in omega arith)

  module _ (place f : X → ℕ) (vs : List X) (once : (j : ℕ) (v : X) → get_elem? vs j ≡ some v → f v ≤ 1)
      (apart : (j k : ℕ) (v w : X) → j ≢ k → get_elem? vs j ≡ some v → get_elem? vs k ≡ some w → 0 < f v → 0 < f w → place v ≢ place w) where
    abbrev at : ℕ → X → ℕ
    at n v = either (eqb (place v) n) (f v) 0

    abbrev under : ℕ → X → ℕ
    under zero v = 0
    under (suc n) v = at n v + under n v

    at_is : (n : ℕ) (v : X) → place v ≡ n → at n v ≡ f v
    at_is n v e = ap (λ (b : _). either b (f v) 0) (eq-eqb (place v) n e)

    at_none : (n : ℕ) (v : X) → place v ≢ n → at n v ≡ 0
    at_none n v ne = ap (λ (b : _). either b (f v) 0) (ne_eqb (place v) n ne)

    at_one : (n : ℕ) → total (at n) vs ≤ 1
    at_one n = total_one (at n) vs
        (λ j v e. dite (ℕ_discrete (place v) n) (λ s. let a = at_is n v s in let o = once j v e in omega arith) (λ s. let a = at_none n v s in omega arith))
        (λ j k v w ne e e' a b. dite (ℕ_discrete (place v) n)
        (λ s. dite (ℕ_discrete (place w) n)
        (λ t. let x = at_is n v s in let y = at_is n w t in apart j k v w ne e e' (omega arith) (omega arith) (omega arith))
        (λ t. let y = at_none n w t in omega arith))
        (λ s. let x = at_none n v s in omega arith))

    few_under : (n : ℕ) → total (under n) vs ≤ n
    few_under zero = let z = total_zero (under zero) vs (λ _ _ _. refl) in omega arith
    few_under (suc n) = let a = at_one n in let s = few_under n in let b = total_both (at n) (under n) vs in omega arith

    covers : (n : ℕ) (v : X) → place v < n → f v ≤ under n v
    covers zero v l = omega arith
    covers (suc n) v l = dite (ℕ_discrete (place v) n) (λ e. let a = at_is n v e in omega arith)
        (λ ne. let c = covers n v (omega arith) in omega arith)

    pub few : (n : ℕ) → ((j : ℕ) (v : X) → get_elem? vs j ≡ some v → 0 < f v → place v < n) → total f vs ≤ n
    few n inside = let u = few_under n in let l = total_low f (under n) vs (λ j v e. dite (dec_lt 0 (f v))
        (λ more. covers n v (inside j v e more)) (λ none. omega arith)) in omega arith

-- so many participants add to a slot's count past its bound, each once
pub few_adders : (sizes : Sizes) (ws : List ℕ) (vs : List EpochView) → EpochInvariant sizes ws vs → (adds : EpochView → ℕ)
    → ((j : ℕ) (v : EpochView) → get_elem? vs j ≡ some v → (adds v ≤ 1) × (0 < adds v → HasPlace v)) → total adds vs ≤ sizes.participants
few_adders sizes ws vs p adds each = few (λ (v : EpochView). v.place) adds vs (λ j v e. (each j v e).0)
    (λ j k v w ne e e' a b. (p.two j k v w ne e e').places ((each j v e).1 a) ((each k w e').1 b)) sizes.participants
    (λ j v e a. (p.each j v e).inside ((each j v e).1 a))

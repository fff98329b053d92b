-- What a ghost map issues goes to the end of the fractions
use Rattle.std.proofs.Common.{◌≡◌, ℕ, zero, suc, ◌+◌, ◌^◌, List, [], ◌∷◌, ◌++◌, length, map, replicate, slice_index_or, below_more, arith, refl, sym, ap, ◌∙◌}
use Rattle.std.proofs.lemmas.List.{map-append, get_or_append_left, get_or_push}
use Rattle.sdd_rights.specs.declared.fraction.Fraction.{Fraction}
use Rattle.sdd_rights.specs.declared.right.StandingKind.{StandingKind}
use Rattle.sdd_rights.specs.Units.{GhostName}
use Rattle.sdd_rights.specs.RightsAuthority.{Kept, whole, kept_of, IsFractionOf, AreFractionsUpTo}

replicate-more : (n : ℕ) (x : Kept) → replicate n x ++ x ∷ [] ≡ replicate (n + 1) x
replicate-more zero x = refl
replicate-more (suc n) x = let e : suc (n + 1) ≡ suc n + 1 = omega arith in
    ap (λ (xs : List Kept). x ∷ xs) (replicate-more n x) ∙ ap (λ (m : ℕ). replicate m x) e

pub kept-issued : (fractions more : List (Fraction StandingKind)) (p : Fraction StandingKind) (n : ℕ) (kind : StandingKind) → more ≡ fractions ++ p ∷ [] →
    map kept_of fractions ≡ replicate n (whole kind) → p.kind ≡ kind → p.units ≡ 2 ^ 63 → map kept_of more ≡ replicate (n + 1) (whole kind)
kept-issued fractions more p n kind more_is kept kind_is units_is = let here : kept_of p ≡ whole kind = rw (kind_is, units_is) in
    ap (map kept_of) more_is ∙ map-append kept_of fractions (p ∷ []) ∙ ap (λ (xs : List Kept). xs ++ kept_of p ∷ []) kept
    ∙ ap (λ (x : Kept). replicate n (whole kind) ++ x ∷ []) here ∙ replicate-more n (whole kind)

pub each-issued : (home next : GhostName) (fractions more : List (Fraction StandingKind)) (p : Fraction StandingKind) (n : ℕ) → more ≡ fractions ++ p ∷ []
    → next ≡ home → length more ≡ n + 1 →
    length fractions ≡ n → AreFractionsUpTo home fractions → p.home ≡ home → p.number ≡ n → AreFractionsUpTo next more
each-issued home next fractions more p n more_is next_is size was each home_is number_is = rw (more_is, next_is) λ k d lt.
    let longer : length (fractions ++ p ∷ []) ≡ n + 1 = ap length (sym more_is) ∙ size in
    below_more (λ (i : ℕ). IsFractionOf home i (slice_index_or (fractions ++ p ∷ []) i d)) n
    (λ i below. rw (get_or_append_left fractions (p ∷ []) d i (omega arith)) (each i d (omega arith)))
    (rw (get_or_push fractions p d n was) record { home_is = home_is; number_is = number_is }) k (omega (arith, longer, lt))

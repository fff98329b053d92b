-- What is kept of a number, where one fraction changes
use Rattle.std.proofs.Common.{◌≡◌, ℕ, ◌<◌, List, length, slice_index_or, slice_set, sym, ◌∙◌, ap}
use Rattle.std.specs.Prelude.{map}
use Rattle.std.proofs.lemmas.List.{map-set, get_or-map}
use Rattle.sdd_rights.specs.declared.fraction.Fraction.{Fraction}
use Rattle.sdd_rights.specs.declared.right.StandingKind.{StandingKind}
use Rattle.sdd_rights.specs.declared.right.StandingKind.TheVariants.{Free}
use Rattle.sdd_rights.specs.RightsAuthority.{Kept, whole, kept_of}

-- what is kept of a number is what its fraction says
pub kept-there : (fractions : List (Fraction StandingKind)) (k : ℕ) (p : Fraction StandingKind) → k < length fractions → p ≡ slice_index_or fractions k p →
    slice_index_or (map kept_of fractions) k (whole Free) ≡ kept_of p
kept-there fractions k p h e = get_or-map kept_of fractions k p (whole Free) h ∙ ap kept_of (sym e)

-- where q comes in the place of p, what is kept changes there
pub kept-changed : (fractions : List (Fraction StandingKind)) (k : ℕ) (p q : Fraction StandingKind) (x : Kept) → k < length fractions
    → p ≡ slice_index_or fractions k p →
    (slice_index_or (map kept_of fractions) k (whole Free) ≡ kept_of p → kept_of q ≡ x) → map kept_of (slice_set fractions k q) ≡ slice_set
    (map kept_of fractions) k x
kept-changed fractions k p q x h e f = map-set kept_of fractions k q ∙ ap (λ (y : Kept). slice_set (map kept_of fractions) k y) (f
    (kept-there fractions k p h e))

-- What is kept of a reader, where one part changes
use Rattle.std.proofs.Common.{◌≡◌, ℕ, ◌<◌, List, length, slice_index_or, slice_set, sym, ◌∙◌, ap, arith}
use Rattle.std.specs.Prelude.{map}
use Rattle.std.proofs.lemmas.List.{map-set, get_or-map, get_or-set_same}
use lib.ListN.{length-set}
use Rattle.sdd_rights.specs.declared.fraction.Fraction.{Fraction}
use Rattle.sdd_values.specs.declared.read_sections.SectionState.{SectionState}
use Rattle.sdd_values.specs.declared.read_sections.SectionState.TheVariants.{Closed}
use Rattle.sdd_values.specs.ReadSections.{Kept, whole, kept_of}

-- what is kept of a reader is what its part says
pub kept-there : (sections : List (Fraction SectionState)) (k : ℕ) (p : Fraction SectionState) → k < length sections → p ≡ slice_index_or sections k p →
    slice_index_or (map kept_of sections) k (whole Closed 0) ≡ kept_of p
kept-there sections k p h e = get_or-map kept_of sections k p (whole Closed 0) h ∙ ap kept_of (sym e)

-- where q comes in the place of p, what is kept changes there
pub kept-changed : (sections : List (Fraction SectionState)) (k : ℕ) (p q : Fraction SectionState) (x : Kept) → k < length sections
    → p ≡ slice_index_or sections k p →
    (slice_index_or (map kept_of sections) k (whole Closed 0) ≡ kept_of p → kept_of q ≡ x) → map kept_of (slice_set sections k q) ≡ slice_set
    (map kept_of sections) k x
kept-changed sections k p q x h e f = map-set kept_of sections k q ∙ ap (λ (y : Kept). slice_set (map kept_of sections) k y) (f (kept-there sections k p h e))

-- where q comes in the place of p and has another lifetime, another lifetime is kept
pub another-lifetime : (sections : List (Fraction SectionState)) (k : ℕ) (p q : Fraction SectionState) → k < length sections → p ≡ slice_index_or sections k p
    → (q.lifetime ≡ p.lifetime → ⊥) →
    (slice_index_or (map kept_of (slice_set sections k q)) k (whole Closed 0)).lifetime ≡ (slice_index_or (map kept_of sections) k
    (whole Closed 0)).lifetime → ⊥
another-lifetime sections k p q h e other same = let long = length-set sections k q in
    let after = kept-there (slice_set sections k q) k q (omega (arith, long, h)) (sym (get_or-set_same sections k q q h)) in
    other (sym (ap (λ (x : Kept). x.lifetime) after) ∙ same ∙ ap (λ (x : Kept). x.lifetime) (kept-there sections k p h e))

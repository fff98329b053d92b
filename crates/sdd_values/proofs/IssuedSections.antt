-- What a ghost map issues goes to the end of the parts
use Rattle.std.proofs.Common.{◌≡◌, ℕ, ◌+◌, ◌^◌, ◌<◌, List, [], ◌∷◌, ◌++◌, length, slice_index_or, below_more, arith, sym, ap, ◌∙◌}
use Rattle.std.proofs.lemmas.List.{get_or_append_left, get_or_push}
use Rattle.sdd_rights.specs.declared.fraction.Fraction.{Fraction}
use Rattle.sdd_rights.specs.Units.{GhostName}
use Rattle.sdd_values.specs.declared.read_sections.SectionState.{SectionState}
use Rattle.sdd_values.specs.declared.read_sections.SectionState.TheVariants.{Closed}
use Rattle.sdd_values.specs.ReadSections.{IsSectionOf, AreSectionsUpTo}

-- what holds of each part, and of the one that is issued
all-issued : (P : ℕ → Fraction SectionState → Type 0) (sections : List (Fraction SectionState)) (p d : Fraction SectionState) (n : ℕ) → length sections ≡ n →
    ((k : ℕ) → k < n → P k (slice_index_or sections k d)) → P n p → (k : ℕ) → k < n + 1 → P k (slice_index_or (sections ++ p ∷ []) k d)
all-issued P sections p d n was each here =
    below_more (λ (k : ℕ). P k (slice_index_or (sections ++ p ∷ []) k d)) n
    (λ k below. rw (get_or_append_left sections (p ∷ []) d k (omega arith)) (each k below))
    (rw (get_or_push sections p d n was) here)

pub each-issued : (home next : GhostName) (sections more : List (Fraction SectionState)) (p : Fraction SectionState) (n : ℕ) → more ≡ sections ++ p ∷ []
    → next ≡ home → length more ≡ n + 1 →
    length sections ≡ n → AreSectionsUpTo home sections → p.home ≡ home → p.number ≡ n → AreSectionsUpTo next more
each-issued home next sections more p n more_is next_is size was each home_is number_is = rw (more_is, next_is) λ k d lt.
    let longer : length (sections ++ p ∷ []) ≡ n + 1 = ap length (sym more_is) ∙ size in
    all-issued (λ k q. IsSectionOf home k q) sections p d n was (λ k below. each k d (omega arith)) record { home_is = home_is; number_is = number_is } k
    (omega (arith, longer, lt))

pub closed-issued : (sections more : List (Fraction SectionState)) (p : Fraction SectionState) (n : ℕ) → more ≡ sections ++ p ∷ [] → length sections ≡ n →
    ((k : ℕ) (d : Fraction SectionState) → k < n → ((slice_index_or sections k d).kind ≡ Closed) × ((slice_index_or sections k d).units ≡ 2 ^ 63))
    → p.kind ≡ Closed →
    p.units ≡ 2 ^ 63 → (k : ℕ) (d : Fraction SectionState) → k < n + 1 →
    ((slice_index_or more k d).kind ≡ Closed) × ((slice_index_or more k d).units ≡ 2 ^ 63)
closed-issued sections more p n more_is was closed kind_is units_is = rw more_is λ k d lt.
    all-issued (λ k q. (q.kind ≡ Closed) × (q.units ≡ 2 ^ 63)) sections p d n was (λ k below. closed k d below) (kind_is, units_is) k lt

-- The last fraction in a slot, as a seat has it with all others
use Rattle.std.proofs.Common.{◌≡◌, ℕ, ◌-◌, [], ◌∷◌, sym, ap, ◌∙◌, subst}
use base.Stored.{Gv}
use Rattle.atomic_table.specs.Table as table
use Rattle.sdd_shared_values.specs.ValueFractions.{FractionContent}
use Rattle.sdd_shared_values.specs.SharedValues.{most, content}
use Rattle.sdd_shared_values.specs.ReadFractions.{content_of}
use Rattle.sdd_shared_values.specs.declared.value_fraction.ValueFraction.{ValueFraction}
use Rattle.sdd_rights.specs.declared.read_fraction.ReadFraction.{ReadFraction}
use Rattle.sdd_domain_invariant.specs.Fractions.FractionsAtHome.{CarriedFractions, fraction_at, share, Has}
use Rattle.sdd_domain_invariant.specs.Fractions.FractionSteps.{CarriesAll, IsValue}
use Rattle.sdd_domain_invariant.proofs.Fractions.WholeFractions.{share_last, units_else}
use Rattle.sdd_atomics.specs.ReadFractions.{IsReadFractionOf}

-- what a seat carries begins with a fraction whose home is there
pub record StartsWith (k : ℕ) (xs : CarriedFractions) : Type 0 where
  pub last : ValueFraction
  pub there : xs ≡ (k, last) ∷ table.rest xs

module _ (γ i n o : ℕ) (Is : Gv → Type 0) (rest : CarriedFractions) where
  pub all_start : (k : ℕ) (xs : CarriedFractions) → k ≡ fraction_at n i n → CarriesAll γ i n o Is rest xs → StartsWith k xs
  all_start k [] is row = absurd row
  all_start k (x ∷ xs) is row = record { last = x.1; there = λ d. ((row.0 ∙ sym is) d, x.1) ∷ xs }

  -- and it is the last fraction in the slot
  pub all_has : (k : ℕ) (x : ValueFraction) (xs : CarriedFractions) → xs ≡ (k, x) ∷ table.rest xs → CarriesAll γ i n o Is rest xs → Has γ i (share n o n) Is x
  all_has k x xs e row = (subst (CarriesAll γ i n o Is rest) e row).1

-- as a content
pub content_last : (γ i n o : ℕ) (Is : Gv → Type 0) (x : ValueFraction) → Has γ i (share n o n) Is x
    → x.content ≡ content γ i x.content.lifetime x.content.shown (most - n - o)
content_last γ i n o Is x has = subst (λ (u : ℕ). x.content ≡ content γ i x.content.lifetime x.content.shown u) (share_last n o) has.0

-- it has other units then
pub last_else : (γ i n o o' u : ℕ) (Is : Gv → Type 0) (rest : CarriedFractions) (k : ℕ) (x y : ValueFraction) (xs ys : CarriedFractions) → xs ≡ (k, x) ∷
    table.rest xs
    → ys ≡ (k, y) ∷ table.rest xs → u ≡ most - n - o' → y.content ≡ record x.content { units = u } → CarriesAll γ i n o Is rest xs
    → CarriesAll γ i n o' Is rest ys
last_else γ i n o o' u Is rest k x y xs ys was now units is row = subst (CarriesAll γ i n o' Is rest) (sym now)
    (units_else γ i n o o' Is rest k x y (table.rest xs) u units is (subst (CarriesAll γ i n o Is rest) was row))

-- some of its units, as a content
pub part_of : (γ i u m : ℕ) (l k : FractionContent) → l ≡ content γ i l.lifetime l.shown u → k ≡ record l { units = m } → k ≡ content γ i k.lifetime k.shown m
part_of γ i u m l k is part = part ∙ (ap (λ (h : FractionContent). record h { units = m }) is
    ∙ (λ d. content γ i (sym (ap (λ (h : FractionContent). h.lifetime) part) d) (sym (ap (λ (h : FractionContent). h.shown) part) d) m))

-- and is a read fraction, which shows what the fractions do
pub cut_read_fractions : (γ i units : ℕ) (value : Gv) (x : ValueFraction) (l : FractionContent) (g : ReadFraction) → Has γ i units (IsValue value) x
    → l ≡ record x.content
    { units = 1 } → content_of g ≡ l
    → IsReadFractionOf γ i value g
cut_read_fractions γ i units value x l g has is same = let e : content_of g ≡ record x.content { units = 1 } = same ∙ is in record {
  unit = record {
    gamma_is = ap (λ (h : FractionContent). h.gamma) e ∙ ap (λ (h : FractionContent). h.gamma) has.0;
    number_is = ap (λ (h : FractionContent). h.number) e ∙ ap (λ (h : FractionContent). h.number) has.0;
  };
  shows = ap (λ (h : FractionContent). h.shown) e ∙ has.1.1;
}

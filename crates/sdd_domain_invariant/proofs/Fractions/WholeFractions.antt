-- A seat that has all fractions in a slot may take its value, or put one in.
use Rattle.std.proofs.Common.{◌≡◌, ℕ, zero, suc, ◌+◌, ◌-◌, ◌<◌, ◌≤◌, [], ◌∷◌, take, drop, sym, refl, ap, ◌∙◌, subst, eq-eqb, ne_eqb, arith}
use mathlib.Core.Logic.{dite}
use native.Mathlib.Decide.{ℕ_discrete}
use prog.Atomic.{either}
use base.Stored.{Gv}
use Rattle.sdd_shared_values.specs.ValueFractions.{FractionContent}
use Rattle.sdd_shared_values.specs.CarriedFractions.{contents, with_contents}
use Rattle.sdd_shared_values.specs.SharedValues.{most, content, units_in, AreUnlentFractions, HasWhole, top_turned, all_turned}
use Rattle.sdd_shared_values.specs.declared.value_fraction.ValueFraction.{ValueFraction}
use Rattle.sdd_domain_invariant.specs.Fractions.FractionsAtHome.{CarriedFractions, share, Has}
use Rattle.sdd_domain_invariant.specs.Fractions.FractionSteps.{CarriesFirst, CarriesAll}

pub share_one : (n o p : ℕ) → p < n → share n o p ≡ 1
share_one n o p l = ap (λ b. either b (most - n - o) 1) (ne_eqb p n (λ e. omega arith))

pub share_last : (n o : ℕ) → share n o n ≡ most - n - o
share_last n o = ap (λ b. either b (most - n - o) 1) (eq-eqb n n refl)

share_some : (n o p : ℕ) → n + o < most → 0 < share n o p
share_some n o p few = dite (ℕ_discrete p n) (λ e. subst (λ (k : ℕ). 0 < k) (sym (ap (share n o) e ∙ share_last n o)) (omega arith))
    (λ ne. subst (λ (k : ℕ). 0 < k) (sym (ap (λ b. either b (most - n - o) 1) (ne_eqb p n ne))) (omega arith))

same_contents : (xs : CarriedFractions) → with_contents xs (contents xs) ≡ xs
same_contents [] = refl
same_contents (x ∷ xs) = ap (λ (l : CarriedFractions). x ∷ l) (same_contents xs)

module _ (γ i n : ℕ) where
  parts : (o : ℕ) (Is : Gv → Type 0) (few : n + o < most) (rest : CarriedFractions) (m : ℕ) (xs : CarriedFractions) → CarriesFirst γ i n o Is rest m xs
      → AreUnlentFractions γ i (take m (contents xs))
  parts o Is few rest zero xs row = tt
  parts o Is few rest (suc m) [] row = absurd row
  parts o Is few rest (suc m) (x ∷ xs) row = let h : FractionContent = x.1.content in let e = row.1.0 in
      let u : h.units ≡ share n o m = ap (λ (l : FractionContent). l.units) e in (
        e ∙ ap (λ (k : ℕ). content γ i h.lifetime h.shown k) (sym u),
        subst (λ (k : ℕ). 0 < k) (sym u) (share_some n o m few),
        parts o Is few rest m xs row.2,
      )

  sum : (o : ℕ) (Is : Gv → Type 0) (rest : CarriedFractions) (m : ℕ) → m ≤ n → (xs : CarriedFractions) → CarriesFirst γ i n o Is rest m xs → units_in
      (take m (contents xs)) ≡ m
  sum o Is rest zero le xs row = refl
  sum o Is rest (suc m) le [] row = absurd row
  sum o Is rest (suc m) le (x ∷ xs) row = let u : x.1.content.units ≡ 1 = ap (λ (l : FractionContent). l.units) row.1.0 ∙ share_one n o m (omega arith) in
      let s = sum o Is rest m (omega arith) xs row.2 in omega arith

  -- all units but the place's own, where there is no owner
  pub whole : (Is : Gv → Type 0) → n < most → (rest xs : CarriedFractions) → CarriesAll γ i n 0 Is rest xs → HasWhole γ i (suc n) Is (contents xs)
  whole Is few rest [] row = absurd row
  whole Is few rest (x ∷ xs) row = let u : x.1.content.units ≡ most - n - 0 = ap (λ (l : FractionContent). l.units) row.1.0 ∙ share_last n 0 in
      let s = sum 0 Is rest n (omega arith) xs row.2 in record {
        newest = x.1.content;
        others = take n (contents xs);
        there = refl;
        so = row.1.1;
        parts = parts 0 Is (omega arith) rest (suc n) (x ∷ xs) row;
        whole = omega arith;
      }

  rows_turned : (o : ℕ) (Is Js : Gv → Type 0) (a : ℕ) (g : Gv) → Js g → (rest : CarriedFractions) (m : ℕ) (xs : CarriedFractions) → CarriesFirst γ i n o Is
      rest m xs
      → CarriesFirst γ i n o Js rest m (with_contents xs (top_turned a g m (contents xs)))
  rows_turned o Is Js a g so rest zero xs row = same_contents xs ∙ row
  rows_turned o Is Js a g so rest (suc m) [] row = absurd row
  rows_turned o Is Js a g so rest (suc m) (x ∷ xs) row = (
    row.0,
    (ap (λ (l : FractionContent). record l { lifetime = a; shown = g }) row.1.0, so),
    rows_turned o Is Js a g so rest m xs row.2,
  )

  -- and still once they show something else
  pub all_after : (o : ℕ) (Is Js : Gv → Type 0) (g : Gv) (rest xs ys : CarriedFractions) → Js g → CarriesAll γ i n o Is rest xs → (a : ℕ) ×
      (ys ≡ all_turned a g (suc n) xs)
      → CarriesAll γ i n o Js rest ys
  all_after o Is Js g rest xs ys so row e = subst (CarriesAll γ i n o Js rest) (sym e.1) (rows_turned o Is Js e.0 g so rest (suc n) xs row)

  -- what is behind them
  pub rest_is : (o : ℕ) (Is : Gv → Type 0) (rest : CarriedFractions) (m : ℕ) (xs : CarriedFractions) → CarriesFirst γ i n o Is rest m xs → drop m xs ≡ rest
  rest_is o Is rest zero xs row = row
  rest_is o Is rest (suc m) [] row = absurd row
  rest_is o Is rest (suc m) (x ∷ xs) row = rest_is o Is rest m xs row.2

  -- ---- the last fraction's units
  -- the last fraction after some of its units went, or came
  last_with : (o o' : ℕ) (Is : Gv → Type 0) (x y : ValueFraction) (u : ℕ) → u ≡ most - n - o' → Has γ i (share n o n) Is x
      → y.content ≡ record x.content { units = u }
      → Has γ i (share n o' n) Is y
  last_with o o' Is x y u units has is = let lifetime = ap (λ (l : FractionContent). l.lifetime) is in let shown = ap (λ (l : FractionContent). l.shown) is in (
    is ∙ (ap (λ (l : FractionContent). record l { units = u }) has.0
        ∙ (λ d. content γ i (sym lifetime d) (sym shown d) ((units ∙ sym (share_last n o')) d))),
    subst Is (sym shown) has.1,
  )

  -- the fractions of the places are the same
  row_alike : (o o' : ℕ) (Is : Gv → Type 0) (rest : CarriedFractions) (m : ℕ) → m ≤ n → (zs : CarriedFractions) → CarriesFirst γ i n o Is rest m zs →
      CarriesFirst γ i n o' Is rest m zs
  row_alike o o' Is rest zero le zs row = row
  row_alike o o' Is rest (suc m) le [] row = absurd row
  row_alike o o' Is rest (suc m) le (z ∷ zs) row = (
    row.0,
    subst (λ (k : ℕ). Has γ i k Is z.1) (share_one n o m (omega arith) ∙ sym (share_one n o' m (omega arith))) row.1,
    row_alike o o' Is rest m (omega arith) zs row.2,
  )

  -- the last fraction has other units then
  pub units_else : (o o' : ℕ) (Is : Gv → Type 0) (rest : CarriedFractions) (k : ℕ) (x y : ValueFraction) (xs : CarriedFractions) (u : ℕ) → u ≡ most - n - o'
      → y.content ≡ record x.content { units = u } → CarriesAll γ i n o Is rest ((k, x) ∷ xs) → CarriesAll γ i n o' Is rest ((k, y) ∷ xs)
  units_else o o' Is rest k x y xs u units is row =
      (row.0, last_with o o' Is x y u units row.1 is, row_alike o o' Is rest n (omega arith) xs row.2)

-- Fractions in a row, one more and one less
use Rattle.std.proofs.Common.{◌≡◌, ℕ, zero, suc, ◌+◌, ◌-◌, ◌*◌, ◌<◌, ◌≤◌, List, [], ◌∷◌, ◌++◌, length, length-append, sym, refl, ap, ◌∙◌, subst, suc-mul, arith}
use mathlib.Core.Option.{some, some-injective}
use mathlib.Core.Logic.{dite}
use native.Mathlib.Decide.{ℕ_discrete}
use lib.ListN.{get_elem?}
use base.Stored.{Gv}
use Rattle.atomic_table.proofs.Lists.{at_longer, at_last}
use Rattle.sdd_shared_values.specs.ValueFractions.{FractionContent}
use Rattle.sdd_shared_values.specs.SharedValues.{most, content, vacant, HasAllUnits, IsNoValueCode, AreVacant}
use Rattle.sdd_shared_values.specs.declared.value_fraction.ValueFraction.{ValueFraction}
use Rattle.sdd_domain_invariant.specs.Fractions.FractionsAtHome.{fraction_at, homes_for, share, Has, AreLaidTo}
use Rattle.sdd_domain_invariant.proofs.Fractions.FractionHomes.{one_slot, one_fraction}
use Rattle.sdd_domain_invariant.proofs.Fractions.WholeFractions.{share_one, share_last}

-- where the next home is
pub next_fraction : (n i p q : ℕ) → q ≡ p + 1 → fraction_at n i q ≡ suc (fraction_at n i p)
unfolding fraction_at
next_fraction n i p q e = omega arith

pub next_slot : (n i j p : ℕ) → j ≡ i + 1 → p ≡ n → fraction_at n j 0 ≡ suc (fraction_at n i p)
unfolding fraction_at
next_slot n i j p e e' = let m = suc-mul i (suc n) in let same : j * suc n ≡ suc i * suc n = ap (λ (k : ℕ). k * suc n) (let h : j ≡ suc i = omega arith in h) in
    omega arith

pub first_home : (n : ℕ) → fraction_at n 0 0 ≡ 0
unfolding fraction_at
first_home n = let e : 0 * suc n ≡ 0 = omega arith in omega arith

pub row_ends : (n i : ℕ) → fraction_at n i n ≡ fraction_at n i 0 + n
unfolding fraction_at
row_ends n i = omega arith

pub all_homes : (n m : ℕ) → homes_for n m ≡ fraction_at n m 0
unfolding fraction_at homes_for
all_homes n m = omega arith

front : {X : Type 0} (xs : List X) (y : X) (j : ℕ) → j < length xs → get_elem? (xs ++ y ∷ []) j ≡ get_elem? xs j
front [] y j low = absurd (omega arith)
front (x ∷ xs) y zero low = refl
front (x ∷ xs) y (suc j) low = front xs y j (omega arith)

module _ (γ n : ℕ) (elsewhere : ℕ → ℕ) (Is : ℕ → Gv → Type 0) where
  pub none_laid : AreLaidTo γ n (fraction_at n 0 0) elsewhere Is []
  none_laid = record { long = sym (first_home n); each = λ i p near low. let z = first_home n in absurd (omega arith) }

  -- one fraction more
  pub one_more : (i p k : ℕ) (xs : List ValueFraction) (y : ValueFraction) → p ≤ n → k ≡ fraction_at n i p → AreLaidTo γ n k elsewhere Is xs
      → Has γ i (share n (elsewhere i) p) (Is i) y
      → AreLaidTo γ n (suc k) elsewhere Is (xs ++ y ∷ [])
  one_more i p k xs y near at laid has = let long = laid.long in record {
    long = let e = length-append xs (y ∷ []) in omega arith;
    each = λ j q near' low. dite (ℕ_discrete (fraction_at n j q) (fraction_at n i p))
        (λ e. let slot = one_slot n j i q p near' near e in
        let place : q ≡ p = one_fraction n i q p (subst (λ (t : ℕ). fraction_at n t q ≡ fraction_at n i p) slot e) in (
          y,
          at_last xs y (fraction_at n j q) (omega arith),
          subst (λ (t : ℕ × ℕ). Has γ t.0 (share n (elsewhere t.0) t.1) (Is t.0) y) (λ d.
              (sym slot d, sym place d)) has,
        ))
        (λ ne. let a = laid.each j q near' (omega arith) in (a.0, at_longer xs (y ∷ []) (fraction_at n j q) a.0 a.1, a.2));
  }

  -- and one less
  pub one_less : (i p k : ℕ) (xs : List ValueFraction) (y : ValueFraction) → p ≤ n → k ≡ fraction_at n i p → AreLaidTo γ n (suc k) elsewhere Is (xs ++ y ∷ [])
      → AreLaidTo γ n k elsewhere Is xs × Has γ i (share n (elsewhere i) p) (Is i) y
  one_less i p k xs y near at laid = let e = length-append xs (y ∷ []) in let long = laid.long in let short : length xs ≡ k = omega arith in
      let mine = laid.each i p near (omega arith) in
      let same : mine.0 ≡ y = some-injective mine.0 y (sym mine.1 ∙ at_last xs y (fraction_at n i p) (omega arith)) in (
        record {
          long = short;
          each = λ j q near' low. let a = laid.each j q near' (omega arith) in (a.0, sym (front xs y (fraction_at n j q) (omega arith)) ∙ a.1, a.2);
        },
        subst (Has γ i (share n (elsewhere i) p) (Is i)) same mine.2,
      )

  pub pushed : (i p k : ℕ) (xs ys : List ValueFraction) (y : ValueFraction) → ys ≡ xs ++ y ∷ [] → p ≤ n → k ≡ suc (fraction_at n i p)
      → AreLaidTo γ n (fraction_at n i p) elsewhere Is xs
      → Has γ i (share n (elsewhere i) p) (Is i) y → AreLaidTo γ n k elsewhere Is ys
  pushed i p k xs ys y is near at laid has = subst (λ (t : ℕ × List ValueFraction). AreLaidTo γ n t.0 elsewhere Is t.1) (λ d. (sym at d, sym is d))
      (one_more i p (fraction_at n i p) xs y near refl laid has)

  pub popped : (i p k : ℕ) (xs ys : List ValueFraction) (y : ValueFraction) → xs ≡ ys ++ y ∷ [] → p ≤ n → k ≡ suc (fraction_at n i p)
      → AreLaidTo γ n k elsewhere
      Is xs
      → AreLaidTo γ n (fraction_at n i p) elsewhere Is ys × Has γ i (share n (elsewhere i) p) (Is i) y
  popped i p k xs ys y is near at laid = one_less i p (fraction_at n i p) ys y near refl
      (subst (λ (t : ℕ × List ValueFraction). AreLaidTo γ n t.0 elsewhere Is t.1) (λ d. (at d, is d)) laid)

  pub found : (i p k j : ℕ) (xs : List ValueFraction) (y : ValueFraction) → p ≤ n → fraction_at n i p < k → j ≡ fraction_at n i p → get_elem? xs j ≡ some y
      → AreLaidTo γ n k elsewhere Is xs
      → Has γ i (share n (elsewhere i) p) (Is i) y
  found i p k j xs y near low at there laid = let a = laid.each i p near low in
      subst (Has γ i (share n (elsewhere i) p) (Is i)) (some-injective a.0 y (sym a.1 ∙ (ap (get_elem? xs) (sym at) ∙ there))) a.2

-- ---- the units of one slot
module _ (γ i n : ℕ) where
  -- a unit apart
  pub rest_less : (l m : FractionContent) (u v : ℕ) → v ≡ u - 1 → l ≡ content γ i l.lifetime l.shown u → m ≡ record l { units = l.units - 1 }
      → m ≡ content γ i m.lifetime m.shown v
  rest_less l m u v e is less = less ∙ (ap (λ (h : FractionContent). record h { units = h.units - 1 }) is
      ∙ (λ d. content γ i (sym (ap (λ (h : FractionContent). h.lifetime) less) d) (sym (ap (λ (h : FractionContent). h.shown) less) d) (sym e d)))

  pub one_apart : (l m : FractionContent) (u : ℕ) → l ≡ content γ i l.lifetime l.shown u → m ≡ record l { units = 1 } → m ≡ content γ i m.lifetime m.shown 1
  one_apart l m u is one = one ∙ (ap (λ (h : FractionContent). record h { units = 1 }) is
      ∙ (λ d. content γ i (sym (ap (λ (h : FractionContent). h.lifetime) one) d) (sym (ap (λ (h : FractionContent). h.shown) one) d) 1))

  -- and joined
  pub one_joined : (l m r : FractionContent) (u v : ℕ) → v ≡ u + 1 → l ≡ content γ i l.lifetime l.shown u → m ≡ content γ i m.lifetime m.shown 1
      → r ≡ record l { units = l.units + m.units } → r ≡ content γ i r.lifetime r.shown v
  one_joined l m r u v sum is one both = both ∙ ((λ d. record (is d) { units = (is d).units + (one d).units })
      ∙ (λ d. content γ i (sym (ap (λ (h : FractionContent). h.lifetime) both) d) (sym (ap (λ (h : FractionContent). h.shown) both) d) (sym sum d)))

  -- what lies in a home: one unit, or the rest
  pub unit_of : (o : ℕ) (Is : Gv → Type 0) (p : ℕ) (y : ValueFraction) → p < n → Has γ i (share n o p) Is y
      → y.content ≡ content γ i y.content.lifetime y.content.shown 1
  unit_of o Is p y near has = subst (λ (u : ℕ). y.content ≡ content γ i y.content.lifetime y.content.shown u) (share_one n o p near) has.0

  pub rest_of : (o : ℕ) (Is : Gv → Type 0) (p u : ℕ) (y : ValueFraction) → p ≡ n → u ≡ most - n - o → Has γ i (share n o p) Is y
      → y.content ≡ content γ i y.content.lifetime y.content.shown u
  rest_of o Is p u y e e' has = subst (λ (u : ℕ). y.content ≡ content γ i y.content.lifetime y.content.shown u) (ap (share n o) e ∙ (share_last n o
      ∙ sym e')) has.0

  pub unit_has : (o : ℕ) (Is : Gv → Type 0) (p u : ℕ) (l : FractionContent) (y : ValueFraction) → p < n → l ≡ content γ i l.lifetime l.shown u
      → y.content ≡ record l
      { units = 1 }
      → Is l.shown
      → Has γ i (share n o p) Is y
  unit_has o Is p u l y near is one so = (
    subst (λ (u : ℕ). y.content ≡ content γ i y.content.lifetime y.content.shown u) (sym (share_one n o p near)) (one_apart l y.content u is one),
    subst Is (sym (ap (λ (h : FractionContent). h.shown) one)) so,
  )

  pub rest_has : (o : ℕ) (Is : Gv → Type 0) (p u : ℕ) (y : ValueFraction) → p ≡ n → u ≡ most - n - o
      → y.content ≡ content γ i y.content.lifetime y.content.shown u → Is
      y.content.shown
      → Has γ i (share n o p) Is y
  rest_has o Is p u y e e' is so =
      (subst (λ (u : ℕ). y.content ≡ content γ i y.content.lifetime y.content.shown u) (e' ∙ sym (ap (share n o) e ∙ share_last n o)) is, so)

-- ---- the fractions of a list of fractions
pub vacant_more : (γ i j n m : ℕ) (h : FractionContent) (hs : List FractionContent) → j ≡ i + 1 → m ≡ n + 1 → HasAllUnits γ i h → IsNoValueCode h.shown →
    AreVacant γ j n hs
    → AreVacant γ i m (h ∷ hs)
vacant_more γ i j n m h hs e e' whole vacant rest = subst (λ (k : ℕ). AreVacant γ i k (h ∷ hs)) (let f : suc n ≡ m = omega arith in f) (
  whole ∙ (λ d. content γ i h.lifetime (vacant d) most),
  subst (λ (k : ℕ). AreVacant γ k n hs) (let f : j ≡ suc i = omega arith in f) rest,
)

pub vacant_first : (γ i j n m : ℕ) (ls : List FractionContent) (h : FractionContent) (hs : List FractionContent) → j ≡ i + 1 → m ≡ n + 1 → ls ≡ h ∷ hs →
    AreVacant γ i m ls
    → (h ≡ content γ i h.lifetime vacant most) × AreVacant γ j n hs
vacant_first γ i j n m ls h hs e e' is all =
    let t : AreVacant γ i (suc n) (h ∷ hs) = subst (λ (k : ℕ × List FractionContent). AreVacant γ i k.0 k.1)
    (λ d. (let f : m ≡ suc n = omega arith in f d, is d)) all in
    (t.0, subst (λ (k : ℕ). AreVacant γ k n hs) (let f : suc i ≡ j = omega arith in f) t.1)

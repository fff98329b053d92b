-- All fractions in a slot are taken from home in one step, and given home in one step.
use Rattle.std.proofs.Common.{◌≡◌, ◌≢◌, ◌⊎◌, inl, inr, ℕ, zero, suc, ◌<◌, ◌≤◌, List, [], ◌∷◌, map, length, set, sym, refl, ap, ◌∙◌, subst, ⊎_elim, arith, length-set}
use mathlib.Core.Option.{none, some, some-injective, some-ne-none}
use mathlib.Core.Logic.{dite}
use native.Mathlib.Decide.{ℕ_discrete}
use lib.ListN.{get_elem?}
use base.Stored.{Gv}
use Rattle.atomic_table.proofs.Lists.{at_set, set_else, set_here}
use Rattle.atomic_table.specs.Table.{Act, keeps, takes, gives, chain, homes_after, carried_after, Valid}
use Rattle.sdd_shared_values.specs.declared.value_fraction.ValueFraction.{ValueFraction}
use Rattle.sdd_rights.specs.declared.views.ShownValue.{ShownValue}
use Rattle.sdd_domain_invariant.specs.Sums.{times}
use Rattle.sdd_domain_invariant.proofs.Sums.{is_same, is_other}
use Rattle.sdd_domain_invariant.specs.Fractions.FractionsAtHome.{FractionsAtHome, CarriedFractions, fraction_at, homes_for, share, Has, LiesAt, IsAtHome}
use Rattle.sdd_domain_invariant.specs.Fractions.FractionSteps.{CarriesFirst, IsValue, CarriesSeen}
use Rattle.sdd_domain_invariant.specs.Slots.Records.{slot_shown, IsIn}
use Rattle.sdd_domain_invariant.proofs.Fractions.FractionHomes.{inside, one_slot, one_fraction}
use Rattle.sdd_domain_invariant.proofs.Slots.Records.{in_head, in_tail}

-- what lies somewhere lies there, or something else does, after it was put somewhere
pub stays : (hs : FractionsAtHome) (j k : ℕ) (y : ValueFraction) → k < length hs → (z : ValueFraction) × (get_elem? hs j ≡ some (some z))
    → (z : ValueFraction) × (get_elem? (set hs k (some y)) j ≡ some (some z))
stays hs j k y low old = dite (ℕ_discrete j k) (λ e. (y, ap (get_elem? (set hs k (some y))) e ∙ set_here hs k (some y) low))
    (λ ne. (old.0, set_else hs k j (some y) ne ∙ old.1))

module _ (γ n i o : ℕ) (Is : Gv → Type 0) where
  -- the first k fractions are taken
  pub record Taken (hs : FractionsAtHome) (c : CarriedFractions) (k : ℕ) : Type 0 where
    pub act : Act ValueFraction
    pub valid : Valid hs c act
    pub row : CarriesFirst γ i n o Is c k (carried_after c act)
    pub long : length (homes_after hs c act) ≡ length hs
    pub else : (j : ℕ) → ((p : ℕ) → p < k → j ≢ fraction_at n i p) → get_elem? (homes_after hs c act) j ≡ get_elem? hs j
    pub gone : (p : ℕ) (y : ValueFraction) → p < k → ¬ (LiesAt n (homes_after hs c act) i p y)

  pub takes_row : (hs : FractionsAtHome) (c : CarriedFractions) (k : ℕ) →
      ((p : ℕ) → p < k → (y : ValueFraction) × LiesAt n hs i p y × Has γ i (share n o p) Is y) → Taken hs c k
  takes_row hs c zero there = record { act = keeps; valid = tt; row = refl; long = refl; else = λ j other. refl; gone = λ p y l. absurd (omega arith) }
  takes_row hs c (suc k) there =
      let t = takes_row hs c k (λ p l. there p (omega arith)) in let a = there k (omega arith) in let y : ValueFraction = a.0 in
      let spot : ℕ = fraction_at n i k in
      let hs' : FractionsAtHome = homes_after hs c t.act in
      let other : (p : ℕ) → p < k → spot ≢ fraction_at n i p = λ p l e. let q = one_fraction n i k p e in omega arith in
      record {
        act = chain t.act (takes spot y);
        valid = (t.valid, t.else spot other ∙ a.1);
        row = (refl, a.2, t.row);
        long = length-set hs' spot none ∙ t.long;
        else = λ j away. set_else hs' spot j none (away k (omega arith)) ∙ t.else j (λ p l. away p (omega arith));
        gone = λ p z l at. ⊎_elim (λ (h : (fraction_at n i p ≡ spot) × (none ≡ some z)). some-ne-none z (sym h.1))
            (λ (h : (fraction_at n i p ≢ spot) × LiesAt n hs' i p z).
            dite (ℕ_discrete p k) (λ e. h.0 (ap (fraction_at n i) e)) (λ ne. t.gone p z (omega arith) h.1))
            (at_set hs' spot (fraction_at n i p) none (some z) at);
      }

  -- once all are, what lies at home lay there before, and in another slot
  pub taken_lies : (hs : FractionsAtHome) (c : CarriedFractions) (t : Taken hs c (suc n)) (j p : ℕ) (y : ValueFraction) → p ≤ n → LiesAt n
      (homes_after hs c t.act) j p y
      → (j ≢ i) × LiesAt n hs j p y
  taken_lies hs c t j p y near lies = dite (ℕ_discrete j i)
      (λ e. absurd (t.gone p y (omega arith) (subst (λ (k : ℕ). LiesAt n (homes_after hs c t.act) k p y) e lies)))
      (λ ne. (ne, sym (t.else (fraction_at n j p) (λ q l e. ne (one_slot n j i p q near (omega arith) e))) ∙ lies))

  -- the first k of what a seat has go home, and it has the rest
  pub record Given (hs : FractionsAtHome) (rest xs : CarriedFractions) (k : ℕ) : Type 0 where
    pub act : Act ValueFraction
    pub valid : Valid hs xs act
    pub carried : carried_after xs act ≡ rest
    pub long : length (homes_after hs xs act) ≡ length hs
    pub there : (p : ℕ) → p < k → (y : ValueFraction) × LiesAt n (homes_after hs xs act) i p y
    pub stay : (j : ℕ) → (y : ValueFraction) × (get_elem? hs j ≡ some (some y)) → (y : ValueFraction) × (get_elem? (homes_after hs xs act) j ≡ some (some y))
    pub home : (p : ℕ) (y : ValueFraction) → p < k → LiesAt n (homes_after hs xs act) i p y → Has γ i (share n o p) Is y
    pub else : (j : ℕ) → ((p : ℕ) → p < k → j ≢ fraction_at n i p) → get_elem? (homes_after hs xs act) j ≡ get_elem? hs j

  pub gives_row : (m : ℕ) → i < m → (k : ℕ) → k ≤ suc n → (hs : FractionsAtHome) (rest xs : CarriedFractions) → length hs ≡ homes_for n m → CarriesFirst γ i n
      o Is rest k xs
      → Given hs rest xs k
  gives_row m low zero near hs rest xs deep row = record {
    act = keeps;
    valid = tt;
    carried = row;
    long = refl;
    there = λ p l. absurd (omega arith);
    stay = λ j y. y;
    home = λ p y l. absurd (omega arith);
    else = λ j other. refl;
  }
  gives_row m low (suc k) near hs rest [] deep row = absurd row
  gives_row m low (suc k) near hs rest (x ∷ xs) deep row =
      let spot : ℕ = fraction_at n i k in let hs' : FractionsAtHome = set hs x.0 (some x.1) in let at_spot : x.0 ≡ spot = row.0 in
      let g = gives_row m low k (omega arith) hs' rest xs (length-set hs x.0 (some x.1) ∙ deep) row.2 in
      let within : x.0 < length hs = (let b = inside n m i k low (omega arith) in omega arith) in
      let other : (p : ℕ) → p < k → spot ≢ fraction_at n i p = λ p l e. let q = one_fraction n i k p e in omega arith in
      let put : get_elem? hs' spot ≡ some (some x.1) = ap (get_elem? hs') (sym at_spot) ∙ set_here hs x.0 (some x.1) within in record {
        act = chain gives g.act;
        valid = (tt, g.valid);
        carried = g.carried;
        long = g.long ∙ length-set hs x.0 (some x.1);
        there = λ p l. dite (ℕ_discrete p k) (λ e. subst (λ (p : ℕ). (y : ValueFraction) × LiesAt n (homes_after hs' xs g.act) i p y) (sym e)
            (g.stay spot (x.1, put)))
            (λ ne. g.there p (omega arith));
        stay = λ j y. g.stay j (stays hs j x.0 x.1 within y);
        home = λ p y l at. dite (ℕ_discrete p k)
            (λ e. let here : LiesAt n (homes_after hs' xs g.act) i k y = subst (λ (p : ℕ). LiesAt n (homes_after hs' xs g.act) i p y) e at in
            let same : x.1 ≡ y = some-injective x.1 y (some-injective (some x.1) (some y) (sym put ∙ (sym (g.else spot other) ∙ here))) in
            subst (λ (p : ℕ). Has γ i (share n o p) Is y) (sym e) (subst (Has γ i (share n o k) Is) same row.1))
            (λ ne. g.home p y (omega arith) at);
        else = λ j away. g.else j (λ p l. away p (omega arith))
            ∙ set_else hs x.0 j (some x.1) (λ e. away k (omega arith) (e ∙ at_spot));
      }

  -- once all have, what lies at home is one of these, or lay there before, in another slot
  pub given_lies : (hs : FractionsAtHome) (rest xs : CarriedFractions) (g : Given hs rest xs (suc n)) (j p : ℕ) (y : ValueFraction) → p ≤ n
      → LiesAt n (homes_after hs xs g.act) j p y → ((j ≡ i) × Has γ i (share n o p) Is y) ⊎ ((j ≢ i) × LiesAt n hs j p y)
  given_lies hs rest xs g j p y near lies = dite (ℕ_discrete j i)
      (λ e. inl (e, g.home p y (omega arith) (subst (λ (k : ℕ). LiesAt n (homes_after hs xs g.act) k p y) e lies)))
      (λ ne. inr (ne, sym (g.else (fraction_at n j p) (λ q l e. ne (one_slot n j i p q near (omega arith) e))) ∙ lies))

-- all that a guard has goes home
module _ (γ n q m : ℕ) (near : q ≤ n) where
  pub record AllGiven (records : List ShownValue) (hs : FractionsAtHome) (xs : CarriedFractions) : Type 0 where
    pub act : Act ValueFraction
    pub valid : Valid hs xs act
    pub carried : carried_after xs act ≡ []
    pub long : length (homes_after hs xs act) ≡ length hs
    pub there : (i : ℕ) → 0 < times i (map slot_shown records) → IsAtHome n (homes_after hs xs act) i q
    pub stay : (j : ℕ) → (y : ValueFraction) × (get_elem? hs j ≡ some (some y)) → (y : ValueFraction) × (get_elem? (homes_after hs xs act) j ≡ some (some y))
    pub home : (j : ℕ) (y : ValueFraction) → get_elem? (homes_after hs xs act) j ≡ some (some y)
        → ((i : ℕ) × (g : Gv) × IsIn records i g × (j ≡ fraction_at n i q) × Has γ i 1 (IsValue g) y) ⊎ (get_elem? hs j ≡ some (some y))

  pub gives_carried : (records : List ShownValue) → ((i : ℕ) → 0 < times i (map slot_shown records) → i < m) → (hs : FractionsAtHome) (xs : CarriedFractions)
      → length hs ≡ homes_for n m → CarriesSeen γ n q records xs → AllGiven records hs xs
  gives_carried [] low hs [] deep carries = record {
    act = keeps;
    valid = tt;
    carried = refl;
    long = refl;
    there = λ i has. absurd (omega arith);
    stay = λ j y. y;
    home = λ j y at. inr at;
  }
  gives_carried [] low hs (x ∷ xs) deep carries = absurd carries
  gives_carried (r ∷ records) low hs [] deep carries = absurd carries
  gives_carried (r ∷ records) low hs (x ∷ xs) deep carries = let i : ℕ = r.slot in
      let hs' : FractionsAtHome = set hs x.0 (some x.1) in let one = is_same i i refl in let at_spot : x.0 ≡ fraction_at n i q = carries.0 in
      let within : x.0 < length hs = (let b = inside n m i q (low i (omega arith)) near in omega arith) in
      let g = gives_carried records (λ j has. low j (omega arith)) hs' xs (length-set hs x.0 (some x.1) ∙ deep) carries.2 in record {
        act = chain gives g.act;
        valid = (tt, g.valid);
        carried = g.carried;
        long = g.long ∙ length-set hs x.0 (some x.1);
        there = λ j has. dite (ℕ_discrete j i)
            (λ e. subst (λ (j : ℕ). IsAtHome n (homes_after hs' xs g.act) j q) (sym e)
            (g.stay (fraction_at n i q) (x.1, ap (get_elem? hs') (sym at_spot) ∙ set_here hs x.0 (some x.1) within)))
            (λ ne. g.there j (let o = is_other j i (λ e. ne (sym e)) in omega arith));
        stay = λ j y. g.stay j (stays hs j x.0 x.1 within y);
        home = λ j y at. ⊎_elim
            (λ (t : (k : ℕ) × (h : Gv) × IsIn records k h × (j ≡ fraction_at n k q) × Has γ k 1 (IsValue h) y).
            inl (t.0, t.1, in_tail r records t.0 t.1 t.2, t.3, t.4))
            (λ (t : get_elem? hs' j ≡ some (some y)). ⊎_elim
            (λ (h : (j ≡ x.0) × (some x.1 ≡ some y)). inl (
              i,
              r.value,
              in_head r records i r.value refl refl,
              h.0 ∙ at_spot,
              subst (Has γ i 1 (IsValue r.value)) (some-injective x.1 y h.1) carries.1,
            ))
            (λ (h : (j ≢ x.0) × (get_elem? hs j ≡ some (some y))). inr h.1)
            (at_set hs x.0 j (some x.1) (some y) t))
            (g.home j y at);
      }
